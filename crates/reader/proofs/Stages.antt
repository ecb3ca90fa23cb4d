-- A sheet part by part: where a part is refused nothing more is read; else the rest is read from where it ended.
use Prim.Native.Nat.{ℕ, ◌+◌, ◌≤◌}
use mathlib.Core.Path.{◌≡◌, refl, sym, ap, ◌∙◌}
use mathlib.Core.List.{List, []}
use native.Mathlib.Omega.{arith}
use lib.ListN.{length, take, drop, length-append}
use Rattle.language.specs.Numbers.{Got, got, no, from}
use Rattle.records.proofs.Tables.{rows_long}
use Rattle.words.proofs.Fronts.{take_front}
use Rattle.forms.specs.Interned.{first}
use Rattle.std.specs.Prelude.{Result, Ok, Err}
use Rattle.language.specs.Numbered.{number_of, numbered}
use Rattle.language.specs.declared.refusal.Refusal.{Refusal}
use Rattle.reader.specs.declared.Counts.{Counts}
use Rattle.reader.specs.declared.Named.{Named}
use Rattle.reader.specs.declared.parts.Listed.{Listed}
use Rattle.records.specs.Rows.{flat}
use Rattle.records.specs.Reading.{Kept, Tables, Reading, naming, keeping, name_ref, pattern_row, phrase_row, onward, root_at, after_base, after_phrases, after_patterns, after_props, reading}
use Rattle.reader.specs.Parts.{kept_after, named_after, part_one, part_two, part_three, part_four}
use Rattle.records.specs.Answers.{ends, rows_in}
use Rattle.reader.specs.Laid.{Propositions, Listing, Gathered, counted, ReadSoFar, FromBase, FromPhrases, FromPatterns, Laid}

-- what the tables and every way to go on have, the reading has
pub onward_has : {A : Type 0} (Q : Tables → Type 0) (T : Tables) (g : Got A) (f : A → ℕ → Reading) → Q T → ((a : A) (at : ℕ) → Q (f a at).tables) → Q (onward T g f).tables
unfolding onward
onward_has Q T (got a at) f t h = h a at
onward_has Q T (no n p) f t h = t

-- tables with other rows and another base
abbrev pub tables : Tables → List (List ℕ) → List (List ℕ) → List ℕ → Tables
tables T ps hs bs = record { names = T.names; words = T.words; patterns = ps; phrases = hs; base = bs }

base_has : (Q : Tables → Type 0) (s : List ℕ) (T : Tables) (B : Kept ℕ) → Q (tables T T.patterns T.phrases B.items) → Q (after_base s T B).tables
unfolding after_base
base_has Q s T B q = onward_has Q (tables T T.patterns T.phrases B.items) B.ended _ q (λ x at. q)

pub phrases_have : (Q : Tables → Type 0) (s : List ℕ) (T : Tables) (F : Kept (List ℕ)) → ((bs : List ℕ) → Q (tables T T.patterns F.items bs)) → Q (after_phrases s T F).tables
unfolding after_phrases
phrases_have Q s T F q =
    let U : Tables = tables T T.patterns F.items [] in
    onward_has Q U F.ended _ (q []) (λ x a. onward_has Q U (from 0 64 s a) _ (q []) (λ nb b.
    base_has Q s U (keeping (λ acc. name_ref s T.names) nb [] b) (q (keeping (λ acc. name_ref s T.names) nb [] b).items)))

patterns_have : (Q : Tables → Type 0) (s : List ℕ) (T : Tables) (K : Kept (List ℕ)) → ((hs : List (List ℕ)) (bs : List ℕ) → Q (tables T K.items hs bs)) → Q (after_patterns s T K).tables
unfolding after_patterns
patterns_have Q s T K q =
    let U : Tables = tables T K.items [] [] in
    onward_has Q U K.ended _ (q [] []) (λ x a. onward_has Q U (from 1 512 s a) _ (q [] []) (λ nf b.
    phrases_have Q s U (keeping (phrase_row s T.names (length K.items)) nf [] b) (λ bs. q (keeping (phrase_row s T.names (length K.items)) nf [] b).items bs)))

-- where a part ended
ended_no : (e : Result ℕ Refusal) (g : Got (Unit {0})) (err : Refusal) → e ≡ Err err → ends e ≡ g → g ≡ no (number_of err.0) err.1
ended_no e g err r f = sym f ∙ ap ends r

ended_at : (e : Result ℕ Refusal) (g : Got (Unit {0})) (next : ℕ) → e ≡ Ok next → ends e ≡ g → g ≡ got tt next
ended_at e g next r f = sym f ∙ ap ends r

-- parts 4 and 5
module _ (s : List ℕ) (T : Tables) (at : ℕ) (bs₀ bs : List ℕ) (b : Listed) (G : Gathered (part_four s T.names at) b bs₀ bs) where
  abbrev B : Kept ℕ
  B = part_four s T.names at

  abbrev W : Tables
  W = tables T T.patterns T.phrases B.items

  ending : (g : Got ℕ) (r : Result Counts Refusal) → after_base s T B ≡ record { tables = W; root = g } → numbered r ≡ counted W g → FromBase (after_base s T B) r bs₀ bs
  ending g r e a = rw e (record { answered = a; base = G.table })

  pub base_refused : (err : Refusal) → b.ended ≡ Err err → FromBase (after_base s T B) (Err err) bs₀ bs
  unfolding after_base onward counted
  base_refused err e =
      let f = ended_no b.ended B.ended err e G.ended in
      ending (no (number_of err.0) err.1) (Err err) (rw f) refl

  module _ (next : ℕ) (e : b.ended ≡ Ok next) (g : Got ℕ) (r : root_at s T.phrases next ≡ g) where
    rooted : after_base s T B ≡ record { tables = W; root = g }
    unfolding after_base onward
    rooted = rw (ended_at b.ended B.ended next e G.ended, r)

    pub root_answered : (x : Result Counts Refusal) → numbered x ≡ counted W g → FromBase (after_base s T B) x bs₀ bs
    root_answered x a = ending g x rooted a

-- the same over the names of a buffer
module _ (s : List ℕ) (T : Tables) (at words patterns count : ℕ) (ns hs bs₀ bs : List ℕ) (H : ReadSoFar T words ns) (many : length T.patterns ≡ patterns) (are : T.phrases ≡ rows_in 12 count hs)
    (b : Listed) (G : Gathered (part_four s ns at) b bs₀ bs) where
  G' : Gathered (part_four s T.names at) b bs₀ bs
  G' = rw H.names G

  pub from_base_refused : (err : Refusal) → b.ended ≡ Err err → FromBase (after_base s T (part_four s T.names at)) (Err err) bs₀ bs
  from_base_refused = base_refused s T at bs₀ bs b G'

  pub from_base_rootless : (next : ℕ) (err : Refusal) → b.ended ≡ Ok next → root_at s (rows_in 12 count hs) next ≡ no (number_of err.0) err.1
      → FromBase (after_base s T (part_four s T.names at)) (Err err) bs₀ bs
  unfolding counted
  from_base_rootless next err e r = root_answered s T at bs₀ bs b G' next e (no (number_of err.0) err.1) (rw are r) (Err err) refl

  pub from_base_rooted : (next root end : ℕ) → b.ended ≡ Ok next → root_at s (rows_in 12 count hs) next ≡ got root end
      → FromBase (after_base s T (part_four s T.names at)) (Ok (record { props = length ns; words = words; patterns = patterns; phrases = count; base = b.count; root = root })) bs₀ bs
  unfolding counted
  from_base_rooted next root end e r =
      let h : length T.phrases ≡ count = ap length are ∙ rows_long 12 count hs in
      let c : length (part_four s T.names at).items ≡ b.count = sym G'.count in
      root_answered s T at bs₀ bs b G' next e (got root end) (rw are r)
      (Ok (record { props = length ns; words = words; patterns = patterns; phrases = count; base = b.count; root = root }))
      (rw (c, H.words_many, many, h, H.names))

-- part 3, and what follows it
base_part : (s : List ℕ) (T : Tables) (a : ℕ) → T.base ≡ [] → onward T (from 0 64 s a) (λ nb b. after_base s T (keeping (λ acc. name_ref s T.names) nb [] b)) ≡ after_base s T (part_four s T.names a)
unfolding part_four onward kept_after after_base
base_part s T a e = go (from 0 64 s a)
  where
    go : (g : Got ℕ) → onward T g (λ nb b. after_base s T (keeping (λ acc. name_ref s T.names) nb [] b)) ≡ after_base s T (kept_after (λ acc. name_ref s T.names) g)
    go (got nb b) = refl
    go (no n p) = ap (λ (bs : List ℕ). record { tables = tables T T.patterns T.phrases bs; root = no n p }) e

module _ (s : List ℕ) (T : Tables) (at : ℕ) (hs₀ hs bs₀ : List ℕ) (f : Listed) (L : Listing 12 512 (part_three s T.names (length T.patterns) at) f hs₀ hs) where
  abbrev F : Kept (List ℕ)
  F = part_three s T.names (length T.patterns) at

  abbrev with_phrases : Tables
  with_phrases = tables T T.patterns F.items []

  pub phrases_refused : (err : Refusal) → f.ended ≡ Err err → FromPhrases (after_phrases s T F) (Err err) hs₀ bs₀ hs bs₀
  unfolding after_phrases onward counted
  phrases_refused err e =
      let x : after_phrases s T F ≡ record { tables = with_phrases; root = no (number_of err.0) err.1 } = rw (ended_no f.ended F.ended err e L.ended) in
      rw x (record { answered = refl; phrases = L.table; base = refl })

  phrases_on : (next : ℕ) → f.ended ≡ Ok next → after_phrases s T F ≡ after_base s with_phrases (part_four s T.names next)
  unfolding after_phrases onward
  phrases_on next e = rw (ended_at f.ended F.ended next e L.ended) (base_part s with_phrases next refl)

  pub phrases_read : (next : ℕ) (r : Result Counts Refusal) (bs : List ℕ) → f.ended ≡ Ok next → FromBase (after_base s with_phrases (part_four s T.names next)) r bs₀ bs → FromPhrases (after_phrases s T F) r hs₀ bs₀ hs bs
  phrases_read next r bs e D =
      let X = after_base s with_phrases (part_four s T.names next) in
      let k : X.tables.phrases ≡ F.items = base_has (λ U. U.phrases ≡ F.items) s with_phrases (part_four s T.names next) refl in
      rw (phrases_on next e) (record { answered = D.answered; phrases = rw k L.table; base = D.base })

-- the same over the names of a buffer
module _ (s : List ℕ) (T : Tables) (at words patterns : ℕ) (ns hs₀ hs bs₀ : List ℕ) (H : ReadSoFar T words ns) (many : length T.patterns ≡ patterns)
    (f : Listed) (L : Listing 12 512 (part_three s ns patterns at) f hs₀ hs) where
  L' : Listing 12 512 (part_three s T.names (length T.patterns) at) f hs₀ hs
  L' = rw (H.names, many) L

  pub from_phrases_refused : (err : Refusal) → f.ended ≡ Err err → FromPhrases (after_phrases s T (part_three s T.names (length T.patterns) at)) (Err err) hs₀ bs₀ hs bs₀
  from_phrases_refused = phrases_refused s T at hs₀ hs bs₀ f L'

  pub from_phrases_read : (next : ℕ) (r : Result Counts Refusal) (bs : List ℕ) → f.ended ≡ Ok next
      → ((U : Tables) → ReadSoFar U words ns → length U.patterns ≡ patterns → U.phrases ≡ rows_in 12 f.count hs → FromBase (after_base s U (part_four s U.names next)) r bs₀ bs)
      → FromPhrases (after_phrases s T (part_three s T.names (length T.patterns) at)) r hs₀ bs₀ hs bs
  from_phrases_read next r bs e D =
      phrases_read s T at hs₀ hs bs₀ f L' next r bs e
      (D (tables T T.patterns (part_three s T.names (length T.patterns) at).items []) (record { names = H.names; words_many = H.words_many }) many (sym L'.rows))

-- part 2, and what follows it
phrases_part : (s : List ℕ) (T : Tables) (a : ℕ) → T.phrases ≡ [] → T.base ≡ [] → onward T (from 1 512 s a) (λ nf b. after_phrases s T (keeping (phrase_row s T.names (length T.patterns)) nf [] b)) ≡ after_phrases s T (part_three s T.names (length T.patterns) a)
unfolding part_three onward kept_after after_phrases
phrases_part s T a h e = go (from 1 512 s a)
  where
    go : (g : Got ℕ) → onward T g (λ nf b. after_phrases s T (keeping (phrase_row s T.names (length T.patterns)) nf [] b)) ≡ after_phrases s T (kept_after (phrase_row s T.names (length T.patterns)) g)
    go (got nf b) = refl
    go (no n p) =
        ap (λ (hs : List (List ℕ)). record { tables = tables T T.patterns hs T.base; root = no n p }) h
        ∙ ap (λ (bs : List ℕ). record { tables = tables T T.patterns [] bs; root = no n p }) e

module _ (s : List ℕ) (T : Tables) (at : ℕ) (ps₀ ps hs₀ bs₀ : List ℕ) (q : Listed) (L : Listing 5 128 (part_two s T.names at) q ps₀ ps) where
  abbrev Q : Kept (List ℕ)
  Q = part_two s T.names at

  abbrev with_patterns : Tables
  with_patterns = tables T Q.items [] []

  pub patterns_refused : (err : Refusal) → q.ended ≡ Err err → FromPatterns (after_patterns s T Q) (Err err) ps₀ hs₀ bs₀ ps hs₀ bs₀
  unfolding after_patterns onward counted flat
  patterns_refused err e =
      let x : after_patterns s T Q ≡ record { tables = with_patterns; root = no (number_of err.0) err.1 } = rw (ended_no q.ended Q.ended err e L.ended) in
      rw x (record { answered = refl; patterns = L.table; phrases = refl; base = refl })

  patterns_on : (next : ℕ) → q.ended ≡ Ok next → after_patterns s T Q ≡ after_phrases s with_patterns (part_three s T.names (length Q.items) next)
  unfolding after_patterns onward
  patterns_on next e = rw (ended_at q.ended Q.ended next e L.ended) (phrases_part s with_patterns next refl refl)

  pub patterns_read : (next : ℕ) (r : Result Counts Refusal) (hs bs : List ℕ) → q.ended ≡ Ok next
      → FromPhrases (after_phrases s with_patterns (part_three s T.names (length Q.items) next)) r hs₀ bs₀ hs bs → FromPatterns (after_patterns s T Q) r ps₀ hs₀ bs₀ ps hs bs
  patterns_read next r hs bs e D =
      let F = part_three s T.names (length Q.items) next in
      let k : (after_phrases s with_patterns F).tables.patterns ≡ Q.items = phrases_have (λ U. U.patterns ≡ Q.items) s with_patterns F (λ bs. refl) in
      rw (patterns_on next e) (record { answered = D.answered; patterns = rw k L.table; phrases = D.phrases; base = D.base })

-- the same over the names of a buffer
module _ (s : List ℕ) (T : Tables) (at words : ℕ) (ns ps₀ ps hs₀ bs₀ : List ℕ) (H : ReadSoFar T words ns) (q : Listed) (L : Listing 5 128 (part_two s ns at) q ps₀ ps) where
  L'' : Listing 5 128 (part_two s T.names at) q ps₀ ps
  L'' = rw H.names L

  pub from_patterns_refused : (err : Refusal) → q.ended ≡ Err err → FromPatterns (after_patterns s T (part_two s T.names at)) (Err err) ps₀ hs₀ bs₀ ps hs₀ bs₀
  from_patterns_refused = patterns_refused s T at ps₀ ps hs₀ bs₀ q L''

  pub from_patterns_read : (next : ℕ) (r : Result Counts Refusal) (hs bs : List ℕ) → q.ended ≡ Ok next
      → ((U : Tables) → ReadSoFar U words ns → length U.patterns ≡ q.count → FromPhrases (after_phrases s U (part_three s U.names (length U.patterns) next)) r hs₀ bs₀ hs bs)
      → FromPatterns (after_patterns s T (part_two s T.names at)) r ps₀ hs₀ bs₀ ps hs bs
  from_patterns_read next r hs bs e D =
      patterns_read s T at ps₀ ps hs₀ bs₀ q L'' next r hs bs e
      (D (tables T (part_two s T.names at).items [] []) (record { names = H.names; words_many = H.words_many }) (sym L''.count))

-- part 1, and what follows it
patterns_part : (s : List ℕ) (T : Tables) (a : ℕ) → T.patterns ≡ [] → T.phrases ≡ [] → T.base ≡ [] → onward T (from 0 128 s a) (λ nq b. after_patterns s T (keeping (pattern_row s T.names) nq [] b)) ≡ after_patterns s T (part_two s T.names a)
unfolding part_two onward kept_after after_patterns
patterns_part s T a k h e = go (from 0 128 s a)
  where
    go : (g : Got ℕ) → onward T g (λ nq b. after_patterns s T (keeping (pattern_row s T.names) nq [] b)) ≡ after_patterns s T (kept_after (pattern_row s T.names) g)
    go (got nq b) = refl
    go (no n p) =
        ap (λ (ps : List (List ℕ)). record { tables = tables T ps T.phrases T.base; root = no n p }) k
        ∙ ap (λ (hs : List (List ℕ)). record { tables = tables T [] hs T.base; root = no n p }) h
        ∙ ap (λ (bs : List ℕ). record { tables = tables T [] [] bs; root = no n p }) e

reading_parts : (s : List ℕ) → reading s ≡ after_props s (part_one s)
unfolding reading part_one named_after onward after_props
reading_parts s = go (from 0 512 s 0)
  where
    go : (g : Got ℕ) → onward (record { names = []; words = first; patterns = []; phrases = []; base = [] }) g (λ np a. after_props s (naming s np [] first a)) ≡ after_props s (named_after s g)
    go (got np a) = refl
    go (no n p) = refl

module _ (s : List ℕ) (ns₀ fs₀ ns fs : List ℕ) (p : Named) (P : Propositions (part_one s) p ns₀ fs₀ ns fs) where
  abbrev with_names : Tables
  with_names = record { names = (part_one s).names; words = (part_one s).words; patterns = []; phrases = []; base = [] }

  pub names_hold : ReadSoFar with_names p.words (take p.props ns)
  names_hold = record { names = sym (rw (P.names, P.props) (take_front (part_one s).names ns₀)); words_many = sym P.words }

  pub names_fit : p.props ≤ length ns
  names_fit =
      let l = P.props in
      let k : length ns ≡ length (part_one s).names + length (drop (length (part_one s).names) ns₀) = ap length P.names ∙ length-append (part_one s).names (drop (length (part_one s).names) ns₀) in
      omega arith

  pub whole_refused : (ps hs bs : List ℕ) (err : Refusal) → p.ended ≡ Err err → Laid s (Err err) ns₀ fs₀ ps hs bs ns fs ps hs bs
  unfolding after_props onward counted flat
  whole_refused ps hs bs err e =
      let x : reading s ≡ record { tables = with_names; root = no (number_of err.0) err.1 } = reading_parts s ∙ rw (ended_no p.ended (part_one s).ended err e P.ended) in
      record { answered = rw x refl; names = rw x P.names; forms = rw x P.forms; patterns = rw x refl; phrases = rw x refl; base = rw x refl }

  sheet_on : (next : ℕ) → p.ended ≡ Ok next → reading s ≡ after_patterns s with_names (part_two s (part_one s).names next)
  unfolding after_props onward
  sheet_on next e = reading_parts s ∙ rw (ended_at p.ended (part_one s).ended next e P.ended) (patterns_part s with_names next refl refl refl)

  pub whole_read : (next : ℕ) (r : Result Counts Refusal) (ps₀ hs₀ bs₀ ps hs bs : List ℕ) → p.ended ≡ Ok next
      → ((T : Tables) → ReadSoFar T p.words (take p.props ns) → FromPatterns (after_patterns s T (part_two s T.names next)) r ps₀ hs₀ bs₀ ps hs bs)
      → Laid s r ns₀ fs₀ ps₀ hs₀ bs₀ ns fs ps hs bs
  whole_read next r ps₀ hs₀ bs₀ ps hs bs e D =
      let K = part_two s (part_one s).names next in
      let E = D with_names names_hold in
      let k : (after_patterns s with_names K).tables.names ≡ (part_one s).names = patterns_have (λ U. U.names ≡ (part_one s).names) s with_names K (λ hs bs. refl) in
      let w : (after_patterns s with_names K).tables.words ≡ (part_one s).words = patterns_have (λ U. U.words ≡ (part_one s).words) s with_names K (λ hs bs. refl) in
      let x = sheet_on next e in
      record {
        answered = rw x E.answered;
        names = rw (x, k) P.names;
        forms = rw (x, w) P.forms;
        patterns = rw x E.patterns;
        phrases = rw x E.phrases;
        base = rw x E.base;
      }
