-- How a listing lies in its buffer: first, for each number of the table, one more than its proposition's place in the listing, or 0 where it is not
-- listed; then the numbers in the listing's order.
use Rattle.std.specs.Prelude.{ℕ, zero, suc, ◌+◌, ◌*◌, ◌≤◌, ◌<◌, ◌≡◌, List, [], ◌∷◌, length, get_or, take}
use Rattle.language.specs.Form.{Form, verum, member}
use Rattle.language.specs.Numbers.{pick}
use Rattle.language.specs.Certificate.{listed, index_of}
use Rattle.forms.specs.Table.{tree, Table}
use Rattle.bindings.specs.Stands.{Is}

-- one more than a proposition's place in a listing, 0 where it is not listed
unfoldable pub mark : Form → List Form → ℕ
unfolding pick member index_of
mark p l = pick (member p l) (index_of p l + 1) 0

-- how many of some numbers are zero
unfoldable pub zeros : List ℕ → ℕ
zeros [] = 0
zeros (zero ∷ xs) = suc (zeros xs)
zeros (suc x ∷ xs) = zeros xs

-- the buffer t holds the listing l of propositions of a table of n; as nothing is listed twice, there is room for all
pub record Marked (n : ℕ) (fs l : List Form) (t : List ℕ) : Type 0 where
  pub marks : (j : ℕ) → j < n → get_or t j 0 ≡ mark (tree fs j) l
  pub order : (i : ℕ) → i < length l → Is fs (get_or t (n + i) 0) (get_or l i verum)
  pub rest : length l + zeros (take n t) ≡ n

-- the n words in use stand for the trees fs, of which the buffer t lists l, so many
pub record Ready (forms : List ℕ) (n : ℕ) (fs l : List Form) (t : List ℕ) (k : ℕ) : Type 0 where
  pub table : Table (take n forms) fs
  pub size : length fs ≡ n
  pub marked : Marked n fs l t
  pub room : 2 * n ≤ length t
  pub count : length l ≡ k

-- what listing the proposition p asks
pub record Listable (forms : List ℕ) (n p : ℕ) (t : List ℕ) (k : ℕ) : Type 0 where
  pub trees : List Form
  pub before : List Form
  pub ready : Ready forms n trees before t k
  pub low : p < n

-- what it gives: the listing has grown by p, as the language's `listed` says
pub record Lists (forms : List ℕ) (n p k : ℕ) (t₀ t : List ℕ) (r : ℕ) : Type 0 where
  pub meets : (x : Listable forms n p t₀ k) → Ready forms n x.trees (listed (tree x.trees p) x.before) t r
