-- How a sheet's bytes are read: the five parts in order, each number judged when it is read.
use Rattle.std.specs.Prelude.{ℕ, ◌+◌, List, [], ◌∷◌, Bool, true, false, ◌&&◌, not, length, get_or, leb, eqb}
use Rattle.language.specs.Refusals.{out_of_range, wrong_reference, bytes_after}
use Rattle.language.specs.Form.{Conn, Form, conj, disj, cond, bicond, atom, verum, falsum, neg, bin}
use Rattle.language.specs.Syntax.{Pattern, any, exactly, neg_p, bin_p, Clause, function, method, Phrase, expr, dedu, Sheet, phrase_at}
use Rattle.language.specs.Syntax.{prop, var, con, rule, abstract, call, bind, match, apply, assume, suppose, dlet, by, block, dmatch}
use Rattle.language.specs.Numbers.{Got, got, no, then, check, from, below, times, record_at}

-- the proposition that a reference below the count names
unfoldable pub reference : List ℕ → List Form → ℕ → Got Form
unfolding then below
reference s ps at = then (below (length ps) s at) (λ p. got (get_or ps p verum))

-- part 1: the readers of a proposition's operands, by its kind
unfoldable pub proposition_kinds : List ℕ → List Form → List (ℕ → Got Form)
unfolding then from reference
proposition_kinds s ps =
    let one : (Form → Form) → ℕ → Got Form = λ f a. then (reference s ps a) (λ p. got (f p)) in
    let two : Conn → ℕ → Got Form = λ c a. then (reference s ps a) (λ p b. then (reference s ps b) (λ q. got (bin c p q))) in
    (λ a. then (from 0 255 s a) (λ v. got (atom v)))
    ∷ (got verum ∷ (got falsum ∷ (one neg ∷ (two conj ∷ (two disj ∷ (two cond ∷ (two bicond ∷ [])))))))

unfoldable pub proposition : List ℕ → List Form → ℕ → Got Form
unfolding proposition_kinds record_at
proposition s ps = record_at (proposition_kinds s ps) s

-- part 2: how many propositions a pattern binds, and how many parts it has, repeats counted
unfoldable pub binders : Pattern → ℕ
binders any = 1
binders (exactly p) = 0
binders (neg_p p) = binders p
binders (bin_p c p q) = binders p + binders q

unfoldable pub parts : Pattern → ℕ
parts any = 1
parts (exactly p) = 1
parts (neg_p p) = 1 + parts p
parts (bin_p c p q) = 1 + (parts p + parts q)

-- a pattern within both limits, else out of range at its record
unfoldable pub small : ℕ → Pattern → ℕ → Got Pattern
unfolding check binders parts
small at p next = check (leb (binders p) 4 && leb (parts p) 256) out_of_range at (got p next)

-- an earlier pattern
unfoldable pub pattern_ref : List ℕ → List Pattern → ℕ → Got Pattern
unfolding then below
pattern_ref s qs at = then (below (length qs) s at) (λ q. got (get_or qs q any))

-- the readers of a pattern's operands, by its kind
unfoldable pub pattern_kinds : List ℕ → List Form → List Pattern → ℕ → List (ℕ → Got Pattern)
unfolding then reference pattern_ref small
pattern_kinds s ps qs at =
    let two : Conn → ℕ → Got Pattern = λ c a.
    then (pattern_ref s qs a) (λ p b. then (pattern_ref s qs b) (λ q. small at (bin_p c p q))) in
    small at any
    ∷ ((λ a. then (reference s ps a) (λ p. small at (exactly p)))
    ∷ ((λ a. then (pattern_ref s qs a) (λ p. small at (neg_p p)))
    ∷ (two conj ∷ (two disj ∷ (two cond ∷ (two bicond ∷ []))))))

unfoldable pub pattern : List ℕ → List Form → List Pattern → ℕ → Got Pattern
unfolding pattern_kinds record_at
pattern s ps qs at = record_at (pattern_kinds s ps qs at) s at

-- part 3: the two classes of phrases
unfoldable pub is_deduction : Phrase → Bool
is_deduction (expr x) = false
is_deduction (dedu d) = true

-- an earlier phrase: of either class, an expression, a deduction
unfoldable pub phrase_ref : List ℕ → List Phrase → ℕ → Got ℕ
unfolding below
phrase_ref s fs at = below (length fs) s at

unfoldable pub expr_ref : List ℕ → List Phrase → ℕ → Got ℕ
unfolding then check phrase_ref is_deduction
expr_ref s fs at = then (phrase_ref s fs at) (λ k next. check (not (is_deduction (phrase_at fs k))) wrong_reference at (got k next))

unfoldable pub dedu_ref : List ℕ → List Phrase → ℕ → Got ℕ
unfolding then check phrase_ref is_deduction
dedu_ref s fs at = then (phrase_ref s fs at) (λ k next. check (is_deduction (phrase_at fs k)) wrong_reference at (got k next))

-- what a fix makes of the phrase it is over, of kind 4 or 5
unfoldable pub fixed : Phrase → ℕ → ℕ → Got Phrase
fixed (dedu d) at next = no wrong_reference at
fixed (expr (prop p)) at next = no wrong_reference at
fixed (expr (var k)) at next = no wrong_reference at
fixed (expr (con c)) at next = no wrong_reference at
fixed (expr (rule r)) at next = no wrong_reference at
fixed (expr (abstract s true n b)) at next = no wrong_reference at
fixed (expr (abstract s false n b)) at next = got (expr (abstract s true n b)) next
fixed (expr (call e es)) at next = no wrong_reference at
fixed (expr (bind e f)) at next = no wrong_reference at
fixed (expr (match e cs)) at next = no wrong_reference at

-- two operands
unfoldable pub pair : (ℕ → Got ℕ) → (ℕ → Got ℕ) → (ℕ → ℕ → Phrase) → ℕ → Got Phrase
unfolding then
pair r r' f a = then (r a) (λ x b. then (r' b) (λ y. got (f x y)))

-- a count from low to top, then that many operands
unfoldable pub several : List ℕ → ℕ → ℕ → (ℕ → Got ℕ) → (List ℕ → Phrase) → ℕ → Got Phrase
unfolding then from times
several s low top r f a = then (from low top s a) (λ n b. then (times n (λ acc. r) [] b) (λ xs. got (f xs)))

-- a clause: an earlier pattern, then its body
unfoldable pub clause : List ℕ → List Pattern → (ℕ → Got ℕ) → ℕ → Got Clause
unfolding then pattern_ref
clause s qs r a = then (pattern_ref s qs a) (λ q b. then (r b) (λ k. got (record { pattern = q; body = k })))

-- a count of clauses, then the clauses
unfoldable pub clauses : List ℕ → List Pattern → (ℕ → Got ℕ) → (List Clause → Phrase) → ℕ → Got Phrase
unfolding then from times clause
clauses s qs r f a = then (from 1 4 s a) (λ n b. then (times n (λ acc. clause s qs r) [] b) (λ cs. got (f cs)))

-- a block of the steps read, of which there is one at least
unfoldable pub block_of : List ℕ → Phrase
block_of [] = expr (var 0)
block_of (k ∷ ks) = dedu (block k ks)

-- the readers of a phrase's operands, by its kind; 10 to 15 are no kinds
unfoldable pub phrase_kinds : List ℕ → List Form → List Pattern → List Phrase → ℕ → List (ℕ → Got Phrase)
unfolding then from reference phrase_ref expr_ref dedu_ref fixed pair several clauses block_of
phrase_kinds s ps qs fs at =
    let E = expr_ref s fs in
    let D = dedu_ref s fs in
    let F = phrase_ref s fs in
    let out : ℕ → Got Phrase = λ a. no out_of_range at in
    -- 0 to 9: prop, var, con, rule, function, method, call, let, fix, match
    (λ a. then (reference s ps a) (λ p. got (expr (prop p))))
    ∷ ((λ a. then (from 0 255 s a) (λ v. got (expr (var v))))
    ∷ ((λ a. then (from 0 4 s a) (λ v. got (expr (con v))))
    ∷ ((λ a. then (from 0 15 s a) (λ v. got (expr (rule v))))
    ∷ (pair (from 0 4 s) E (λ n b. expr (abstract function false n b))
    ∷ (pair (from 0 4 s) D (λ n b. expr (abstract method false n b))
    ∷ ((λ a. then (E a) (λ e. several s 0 4 E (λ es. expr (call e es))))
    ∷ (pair E E (λ e f. expr (bind e f))
    ∷ ((λ a. then (F a) (λ k. fixed (phrase_at fs k) a))
    ∷ ((λ a. then (E a) (λ e. clauses s qs E (λ cs. expr (match e cs))))
    ∷ (out ∷ (out ∷ (out ∷ (out ∷ (out ∷ (out
    -- 16 to 22: method call, assume, suppose-absurd, dlet, by, block, dmatch
    ∷ ((λ a. then (E a) (λ e. several s 0 4 F (λ es. dedu (apply e es))))
    ∷ (pair E D (λ e d. dedu (assume e d))
    ∷ (pair E D (λ e d. dedu (suppose e d))
    ∷ (pair F D (λ f d. dedu (dlet f d))
    ∷ (pair E D (λ e d. dedu (by e d))
    ∷ (several s 1 8 D block_of
    ∷ ((λ a. then (F a) (λ f. clauses s qs D (λ cs. dedu (dmatch f cs))))
    ∷ []))))))))))))))))))))))

unfoldable pub phrase : List ℕ → List Form → List Pattern → List Phrase → ℕ → Got Phrase
unfolding phrase_kinds record_at
phrase s ps qs fs at = record_at (phrase_kinds s ps qs fs at) s at

-- the five parts; nothing follows
unfoldable pub sheet : List ℕ → Got Sheet
unfolding then check from times proposition pattern phrase reference dedu_ref
sheet s =
    then (from 0 512 s 0) (λ np a. then (times np (proposition s) [] a) (λ ps b.
    then (from 0 128 s b) (λ nq c. then (times nq (pattern s ps) [] c) (λ qs d.
    then (from 1 512 s d) (λ nf e. then (times nf (phrase s ps qs) [] e) (λ fs f.
    then (from 0 64 s f) (λ nb g. then (times nb (λ acc. reference s ps) [] g) (λ bs h.
    then (dedu_ref s fs h) (λ r end.
    check (eqb end (length s)) bytes_after end
    (got (record { props = ps; patterns = qs; phrases = fs; base = bs; root = r }) end))))))))))
