-- The public functions of `wording`: each by the equations that its contract has.
use mathlib.Core.Path.{◌≡◌, refl, sym, ap, ◌∙◌}
use Prim.Native.Nat.{ℕ, ◌≤◌}
use native.Mathlib.Omega.{arith}
use mathlib.Core.List.{List}
use lib.ListN.{length, drop, length-drop}
use Rattle.wording.specs.declared.Reading.{Reading}
use Rattle.wording.specs.Page.{Page, page}
use Rattle.wording.specs.Decimals.{Reads}
use Rattle.wording.specs.Text.{after}
use Rattle.determined.specs.Once.{Once}
use Rattle.determined.specs.Wording.{Wording}
use Rattle.determined.proofs.Left.{pair}

-- a page written on: how much of it is written, and the buffer
page_once : {A : Type 0} {p : Page} {r r' : ℕ} {t t' : List ℕ} {u : A} → page t r ≡ p → page t' r' ≡ p → (r ≡ r') × (◌≡◌ {A = List ℕ × A} (t, u) (t', u))
page_once e f = let z = e ∙ sym f in (ap (λ (q : Page). q.used) z, pair (ap (λ (q : Page). q.text) z) refl)

-- a piece of a text read: what it says, how many bytes are written, and the buffer
reading_once :
    {A : Type 0} {piece : List ℕ} {b r r' : Reading} {t₀ t t' : List ℕ} {u : A} → Reads piece b r t₀ t → Reads piece b r' t₀ t' →
    (r ≡ r') × (◌≡◌ {A = List ℕ × A} (t, u) (t', u))
reading_once x y =
    let said = x.answer ∙ sym y.answer in
    let z = x.bytes ∙ sym y.bytes in
    (λ i. record { said = said i; bytes = ap (λ (q : Page). q.used) z i }, pair (ap (λ (q : Page). q.text) z) refl)

-- a place within a text, by what stands from there on
place_once : (text : List ℕ) (k r r' : ℕ) → after k text ≡ drop r text → after k text ≡ drop r' text → r ≤ length text → r' ≤ length text → r ≡ r'
place_once text k r r' e f h h' = let c = sym (length-drop r text) ∙ ap length (sym e ∙ f) ∙ length-drop r' text in omega arith

pub wording : Wording
unfolding Once
wording = record {
  unread = λ κs a z z' ws ws' x y. (x ∙ sym y, refl);
  read_decimal = λ κs a z z' ws ws' x y. reading_once x y;
  copy = λ κs a z z' ws ws' x y. page_once x y;
  accepted = λ κs a z z' ws ws' x y. page_once x y;
  stands = λ κs a z z' ws ws' x y. page_once x y;
  falls = λ κs a z z' ws ws' x y. page_once x y;
  fails = λ κs a z z' ws ws' x y. page_once x y;
  at_phrase = λ κs a z z' ws ws' x y. page_once x y;
  in_decimal = λ κs a z z' ws ws' x y. page_once x y;
  trouble = λ κs a z z' ws ws' x y. page_once x y;
  decimals_unread = λ κs a z z' ws ws' x y. (x ∙ sym y, refl);
  decimals_read = λ κs a z z' ws ws' x y. reading_once x y;
  page_put = λ κs a z z' ws ws' x y. page_once x y;
  page_copy = λ κs a z z' ws ws' x y. page_once x y;
  page_number = λ κs a z z' ws ws' x y. page_once x y;
  page_list = λ κs a z z' ws ws' x y. page_once x y;
  page_bytes = λ κs a z z' ws ws' x y. page_once x y;
  page_words = λ κs a z z' ws ws' x y. page_once x y;
  page_skip = λ κs a z z' ws ws' x y. (place_once _ _ z z' x.0 y.0 x.1 y.1, refl);
  page_wide = λ κs a z z' ws ws' x y. (x.0 ∙ sym y.0, refl);
  template_fill = λ κs a z z' ws ws' x y. page_once x y;
}
