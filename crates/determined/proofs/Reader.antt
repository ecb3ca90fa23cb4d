-- The public functions of `reader`: each by the equations that its contract has.
use mathlib.Core.Path.{◌≡◌, refl, sym, ◌∙◌}
use Prim.Native.Nat.{ℕ}
use mathlib.Core.List.{List}
use Rattle.numbers.proofs.Answers.{gotten_once}
use Rattle.std.specs.Prelude.{Result}
use Rattle.language.specs.declared.refusal.Refusal.{Refusal}
use Rattle.records.specs.Reading.{Kept}
use Rattle.records.proofs.Once.{ends_once}
use Rattle.reader.specs.declared.parts.Listed.{Listed}
use Rattle.reader.specs.Laid.{Listing, Gathered}
use Rattle.reader.proofs.Determined.{propositions_once, sheet_once}
use Rattle.determined.specs.Once.{Once}
use Rattle.determined.specs.Reader.{Reader}
use Rattle.determined.proofs.Left.{pair}

listed_by : (c c' : ℕ) (e e' : Result ℕ Refusal) → c ≡ c' → e ≡ e' → ◌≡◌ {A = Listed} (record { count = c; ended = e }) (record { count = c'; ended = e' })
listed_by c c' e e' x y = rw (x, y)

-- rows in front of a buffer
listing_once : (w top : ℕ) (K : Kept (List ℕ)) (r r' : Listed) (t₀ t t' : List ℕ) → Listing w top K r t₀ t → Listing w top K r' t₀ t' → (r ≡ r') × (t ≡ t')
listing_once w top K r r' t₀ t t' x y =
    (listed_by r.count r'.count r.ended r'.ended (x.count ∙ sym y.count) (ends_once r.ended r'.ended (x.ended ∙ sym y.ended)), x.table ∙ sym y.table)

-- numbers in front of a buffer
gathered_once : (K : Kept ℕ) (r r' : Listed) (t₀ t t' : List ℕ) → Gathered K r t₀ t → Gathered K r' t₀ t' → (r ≡ r') × (t ≡ t')
gathered_once K r r' t₀ t t' x y =
    (listed_by r.count r'.count r.ended r'.ended (x.count ∙ sym y.count) (ends_once r.ended r'.ended (x.ended ∙ sym y.ended)), x.table ∙ sym y.table)

pub reader : Reader
unfolding Once
reader = record {
  read_sheet = λ κs a z z' ws ws' x y. let (e, n, f, p, h, b) = sheet_once _ z z' _ _ _ _ _ _ _ _ _ _ _ _ _ _ _ x y in (e, pair n (pair f (pair p (pair h (pair b refl)))));
  read_propositions = λ κs a z z' ws ws' x y. let (e, n, f) = propositions_once _ z z' _ _ _ _ _ _ x y in (e, pair n (pair f refl));
  parts_propositions = λ κs a z z' ws ws' x y. let (e, n, f) = propositions_once _ z z' _ _ _ _ _ _ x y in (e, pair n (pair f refl));
  parts_patterns = λ κs a z z' ws ws' x y. let (e, f) = listing_once _ _ _ z z' _ _ _ x y in (e, pair f refl);
  parts_phrases = λ κs a z z' ws ws' x y. let (e, f) = listing_once _ _ _ z z' _ _ _ x y in (e, pair f refl);
  parts_base = λ κs a z z' ws ws' x y. let (e, f) = gathered_once _ z z' _ _ _ x y in (e, pair f refl);
  parts_root = λ κs a z z' ws ws' x y. (gotten_once z z' (x ∙ sym y), refl);
}
