-- The texts at some values, in full: what the definitions and the templates make of them.
use Rattle.std.proofs.Common.{◌≡◌, refl, Err}
use mathlib.Core.List.{[], ◌∷◌}
use Rattle.wording.specs.Text.{text, digits, decimal, listed, past, up_to, after, piece}
use Rattle.wording.specs.Tables.{refusals, constructors, rules, kinds, troubles}
use Rattle.wording.specs.Templates.{filled}
use Rattle.wording.specs.Answers.{accepted_text, stands_text, refused_text, dots_text, here_text, around_text, sheet_text, first_at, phrase_text, trouble_text}
use Rattle.wording.specs.Decimals.{heard, spoken, said, bytes_of}
use Rattle.wording.specs.declared.Fault.TheVariants.{Stray, Over}

pub record Examples : Type 0 where
  pub accepted : accepted_text 24 (record { 0 = 11 }) (record { 0 = 3 }) ≡ text "ACCEPTED with a certificate of 24 bytes, work 11, inferences 3\n"
  pub stands : stands_text 24 3 (record { 0 = 3 }) ≡ text "ACCEPTED with conclusion 3, inferences 3, in a certificate of 24 bytes\n"
  pub refused : refused_text 14 ≡ text "REFUSED 14: premise not in the base\n"
  pub in_certificate : refused_text 39 ≡ text "REFUSED 39: in the certificate's bytes: bytes after the end\n"
  pub not_shortest : sheet_text (128 ∷ 0 ∷ []) 0 ≡ text "at byte 0 of the sheet: [128] 0\n"
  pub at_end : sheet_text (3 ∷ 0 ∷ []) 2 ≡ text "at byte 2 of the sheet: 3 0 [end]\n"
  pub amid : sheet_text (1 ∷ 2 ∷ 3 ∷ 4 ∷ 5 ∷ 6 ∷ 7 ∷ 8 ∷ 9 ∷ 10 ∷ 11 ∷ 12 ∷ 13 ∷ 14 ∷ 15 ∷ 16 ∷ 17 ∷ 18 ∷ 19 ∷ 20 ∷ []) 9
      ≡ text "at byte 9 of the sheet: .. 2 3 4 5 6 7 8 9 [10] 11 12 13 14 15 16 17 18 ..\n"
  pub proposition : phrase_text (0 ∷ 7 ∷ []) (5 ∷ 6 ∷ 7 ∷ []) 5 ≡ text "at phrase 5: proposition 2\n"
  pub rule : phrase_text (3 ∷ 1 ∷ []) [] 0 ≡ text "at phrase 0: rule modus-ponens\n"
  pub block : phrase_text (21 ∷ 3 ∷ 6 ∷ 7 ∷ 8 ∷ []) [] 9 ≡ text "at phrase 9: block of phrases 6 7 8\n"
  pub call : phrase_text (16 ∷ 2 ∷ 2 ∷ 4 ∷ 5 ∷ []) [] 8 ≡ text "at phrase 8: method call of phrase 2, argument phrases: 4 5\n"
  pub match : phrase_text (22 ∷ 3 ∷ 2 ∷ 0 ∷ 4 ∷ 1 ∷ 5 ∷ []) [] 6 ≡ text "at phrase 6: dmatch of phrase 3, clauses by pattern and phrase: 0 4 1 5\n"
  pub read : bytes_of (text " 3 0\n255") ≡ 3 ∷ 0 ∷ 255 ∷ []
  pub over : said (text "1\n 007 256") ≡ Err (Over 2 6)
  pub stray : said (text "1, 2 x") ≡ Err (Stray 1 2)
  pub told_over : trouble_text 1 2 6 ≡ text "UNREADABLE: the sheet's text says no bytes: at line 2, column 6 begins a number over 255\n"
  pub told_stray : trouble_text 2 1 2 ≡ text "UNREADABLE: the certificate's text says no bytes: at line 1, column 2 stands a character that is neither a digit nor white space\n"
  pub told_unkept : trouble_text 5 0 0 ≡ text "UNWRITTEN: the certificate can't be kept\n"

pub examples : Examples
unfolding text digits decimal listed past up_to after piece refusals constructors rules kinds troubles filled accepted_text stands_text refused_text dots_text here_text around_text sheet_text first_at phrase_text trouble_text heard spoken said bytes_of
examples =
    record {
      accepted = refl;
      stands = refl;
      refused = refl;
      in_certificate = refl;
      not_shortest = refl;
      at_end = refl;
      amid = refl;
      proposition = refl;
      rule = refl;
      block = refl;
      call = refl;
      match = refl;
      read = refl;
      over = refl;
      stray = refl;
      told_over = refl;
      told_stray = refl;
      told_unkept = refl;
    }
