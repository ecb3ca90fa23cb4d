-- Such doors there are: each of these does what a description of specs/Wrong.antt says, so it is the contract that shuts it out.
use Prim.Native.Nat.{ℕ}
use native.Mathlib.Omega.{arith}
use mathlib.Core.Path.{◌≡◌, refl, sym, ap, ap₂, ◌∙◌}
use mathlib.Core.Bool.{Bool, true, false, ◌&&◌, and-eq-true_iff}
use mathlib.Core.List.{List, [], ◌∷◌, ◌++◌}
use lib.ListN.{length}
use lib.Dec.{eqb}
use borrow.Author.Tests.{eqb-true}
use Rattle.language.specs.Syntax.{Sheet, Phrase, expr, dedu, apply, assume, suppose, dlet, by, block, dmatch, phrase_at}
use Rattle.language.specs.Numbers.{Got, got, no, pick}
use Rattle.language.specs.Read.{sheet}
use Rattle.language.specs.Values.{empty, Out, out, stop}
use Rattle.language.specs.Run.{Derived, deduce}
use Rattle.language.specs.Derives.{Derives}
use Rattle.language.specs.Certificate.{certificate}
use Rattle.language.specs.Answer.{Answer, accepted, refused, answer}
use Rattle.language.specs.Doors.{accepted_with, stands_with, evaluated_numbers, checked_numbers, fronted}
use Rattle.language.specs.declared.Work.{Work}
use Rattle.language.specs.declared.Inferences.{Inferences}
use Rattle.theorems.specs.Demands.{DeducesExactly, AcceptsExactly}
use Rattle.theorems.proofs.Exact.{interpreted, determined}
use Rattle.theorems.proofs.Accepting.{accepts_exactly}
use Rattle.std.specs.Prelude.{Result, Err}
use Rattle.language.specs.declared.refusal.Refusal.{Refusal}
use Rattle.language.specs.declared.refusal.Why.{Why}
use Rattle.language.specs.declared.refusal.Why.TheVariants.{BytesEnd, OutputShort}
use Rattle.language.specs.Numbered.{number_of}
use Rattle.theorems.proofs.Lists.{clash}
use Rattle.theorems.proofs.Refusals.{why_of, found}
use Rattle.doors.specs.Wrong.{Evaluator, RefusesEverything, EmitsTrueIntro, WritesNothing, SpendsTheBudget, InfersItsWork, LeavesEvaluationScratch, RunsFirstStep, BelievesAnnounced, WritesWhatFits, AcceptsWhatIsThere, Evaluating, Checker, AcceptsAll, RefusesAll, IgnoresBase, IgnoresConclusion, CountsNone, LeavesCheckScratch}

-- bytes end before a number; and an output that is too short
abbrev cut : Refusal
cut = record { 0 = BytesEnd; 1 = 0 }

abbrev short : Refusal
short = record { 0 = OutputShort; 1 = 0 }

-- the parts of two answers that are one
accepted_parts : {n n' : ℕ} {w w' : Work} {i i' : Inferences} → accepted_with n w i ≡ accepted_with n' w' i' → (n ≡ n') × (w.0 ≡ w'.0) × (i.0 ≡ i'.0)
unfolding evaluated_numbers
accepted_parts e = let f = ap evaluated_numbers e in (cc, cc, cc)

stands_parts : {k k' : ℕ} {i i' : Inferences} → stands_with k i ≡ stands_with k' i' → (k ≡ k') × (i.0 ≡ i'.0)
unfolding checked_numbers
stands_parts e = let f = ap checked_numbers e in (cc, cc)

-- it refuses, and touches nothing
abbrev refuser : Evaluator
refuser s budget out₀ bs₀ = record { answer = Err cut; output = out₀; scratch = bs₀ }

pub refuser_refuses : RefusesEverything refuser
unfolding RefusesEverything
refuser_refuses s budget out₀ bs₀ = (cut, refl)

pub refuser_writes_nothing : WritesNothing refuser
unfolding WritesNothing
refuser_writes_nothing s budget out₀ bs₀ = refl

pub refuser_leaves_scratch : LeavesEvaluationScratch refuser
unfolding LeavesEvaluationScratch
refuser_leaves_scratch s budget out₀ bs₀ = refl

-- it accepts, with true-intro and the whole budget for both counts
abbrev truth : Evaluator
truth s budget out₀ bs₀ = record {
  answer = accepted_with 5 (record { 0 = budget }) (record { 0 = budget });
  output = fronted (1 ∷ (1 ∷ (0 ∷ (13 ∷ (0 ∷ []))))) out₀;
  scratch = bs₀;
}

pub truth_emits : EmitsTrueIntro truth
unfolding EmitsTrueIntro
truth_emits s budget n w i out₀ bs₀ e = refl

pub truth_spends : SpendsTheBudget truth
unfolding SpendsTheBudget
truth_spends s budget n out₀ bs₀ w i e = sym (accepted_parts e).1

pub truth_infers : InfersItsWork truth
unfolding InfersItsWork
truth_infers s budget n out₀ bs₀ w i e = let (_, x, y) = accepted_parts e in sym y ∙ x

pub truth_believes : BelievesAnnounced truth
unfolding BelievesAnnounced
truth_believes s S end budget e k out₀ bs₀ d u small long reads root derives spent room = (5, (record { 0 = budget }), (record { 0 = budget }), refl)

-- it accepts with two bytes, of which it writes what fits
unfoldable pub fitted : List ℕ → List (List ℕ) → Evaluating
fitted [] bs₀ = record { answer = Err short; output = []; scratch = bs₀ }
fitted (x ∷ []) bs₀ = record { answer = Err short; output = 4 ∷ []; scratch = bs₀ }
fitted (x ∷ (y ∷ zs)) bs₀ = record { answer = accepted_with 2 (record { 0 = 1 }) (record { 0 = 1 }); output = 4 ∷ (5 ∷ zs); scratch = bs₀ }

abbrev fitter : Evaluator
fitter s budget out₀ bs₀ = fitted out₀ bs₀

pub fitter_writes_what_fits : WritesWhatFits fitter
unfolding WritesWhatFits fitted
fitter_writes_what_fits s budget n w i out₀ [] bs₀ e h = absurd (clash cc)
fitter_writes_what_fits s budget n w i out₀ (x ∷ []) bs₀ e h = absurd (clash cc)
fitter_writes_what_fits s budget n w i [] (x ∷ (y ∷ zs)) bs₀ e h = refl
fitter_writes_what_fits s budget n w i (a ∷ []) (x ∷ (y ∷ zs)) bs₀ e h = refl
fitter_writes_what_fits s budget n w i (a ∷ (b ∷ cs)) (x ∷ (y ∷ zs)) bs₀ e h = let z : 2 ≡ n = (accepted_parts e).0 in absurd (omega arith)

-- it runs a block's first step, and accepts with what that derives
unfoldable pub ran : Out Derived → List ℕ → List (List ℕ) → Evaluating
ran (out d w) out₀ bs₀ = record { answer = accepted_with 0 (record { 0 = 0 }) (record { 0 = 0 }); output = fronted (certificate d) out₀; scratch = bs₀ }
ran (stop n k) out₀ bs₀ = record { answer = Err (record { 0 = why_of n; 1 = k }); output = out₀; scratch = bs₀ }

-- it hands on a refusal, number and place
pub ran_refuses : (w : Why) (k : ℕ) (out₀ : List ℕ) (bs₀ : List (List ℕ)) → (ran (stop (number_of w) k) out₀ bs₀).answer ≡ Err (record { 0 = w; 1 = k })
unfolding ran
ran_refuses w k out₀ bs₀ = ap (λ (x : Why). Err (record { 0 = x; 1 = k })) (found w)

unfoldable pub begun : Sheet → ℕ → Phrase → List ℕ → List (List ℕ) → Evaluating
begun S budget (dedu (block j js)) out₀ bs₀ = ran (deduce S.phrases 63 empty S.base j budget) out₀ bs₀
begun S budget (dedu (apply k ks)) out₀ bs₀ = refuser [] 0 out₀ bs₀
begun S budget (dedu (assume j k)) out₀ bs₀ = refuser [] 0 out₀ bs₀
begun S budget (dedu (suppose j k)) out₀ bs₀ = refuser [] 0 out₀ bs₀
begun S budget (dedu (dlet j k)) out₀ bs₀ = refuser [] 0 out₀ bs₀
begun S budget (dedu (by j k)) out₀ bs₀ = refuser [] 0 out₀ bs₀
begun S budget (dedu (dmatch k cs)) out₀ bs₀ = refuser [] 0 out₀ bs₀
begun S budget (expr x) out₀ bs₀ = refuser [] 0 out₀ bs₀

unfoldable pub over : Got Sheet → ℕ → List ℕ → List (List ℕ) → Evaluating
over (got S end) budget out₀ bs₀ = begun S budget (phrase_at S.phrases S.root) out₀ bs₀
over (no n p) budget out₀ bs₀ = refuser [] 0 out₀ bs₀

abbrev hasty : Evaluator
hasty s budget out₀ bs₀ = over (sheet s) budget out₀ bs₀

ran_first : (S : Sheet) (budget j n : ℕ) (w : Work) (i : Inferences) (out₀ : List ℕ) (bs₀ : List (List ℕ)) (r : Out Derived) →
    deduce S.phrases 63 empty S.base j budget ≡ r → (ran r out₀ bs₀).answer ≡ accepted_with n w i →
    (d : Derived) × (u : ℕ) × Derives S.phrases 63 empty S.base j d u × ((ran r out₀ bs₀).output ≡ fronted (certificate d) out₀)
unfolding ran DeducesExactly
ran_first S budget j n w i out₀ bs₀ (out d left) e h =
    let (u, x, z) = (interpreted S.phrases 63 empty S.base j budget left d).0 e in
    (d, u, x, refl)
ran_first S budget j n w i out₀ bs₀ (stop a k) e h = absurd (clash cc)

pub hasty_runs_first_step : RunsFirstStep hasty
unfolding RunsFirstStep over begun
hasty_runs_first_step s S end budget j js n w i out₀ bs₀ reads root h =
    let r = deduce S.phrases 63 empty S.base j budget in
    let same : hasty s budget out₀ bs₀ ≡ ran r out₀ bs₀ =
    ap (λ (g : Got Sheet). over g budget out₀ bs₀) reads ∙ ap (λ (p : Phrase). begun S budget p out₀ bs₀) root in
    let (d, u, x, e) = ran_first S budget j n w i out₀ bs₀ r refl (sym (ap (λ (v : Evaluating). v.answer) same) ∙ h) in
    (d, u, x, ap (λ (v : Evaluating). v.output) same ∙ e)

-- it answers as the definitions do, but refuses unless the output begins with the certificate
unfoldable pub begins : List ℕ → List ℕ → Bool
begins [] out₀ = true
begins (b ∷ bytes) [] = false
begins (b ∷ bytes) (x ∷ out₀) = eqb b x && begins bytes out₀

begins_fronted : (bytes out₀ : List ℕ) → begins bytes out₀ ≡ true → out₀ ≡ fronted bytes out₀
unfolding begins fronted
begins_fronted [] out₀ e = refl
begins_fronted (b ∷ bytes) [] e = absurd (clash cc)
begins_fronted (b ∷ bytes) (x ∷ out₀) e =
    let (one, rest) = (and-eq-true_iff (eqb b x) (begins bytes out₀)).0 e in
    ap₂ ◌∷◌ (sym (eqb-true b x one)) (begins_fronted bytes out₀ rest)

unfoldable pub kept : Answer → List ℕ → List (List ℕ) → Evaluating
unfolding pick
kept (accepted bytes w i) out₀ bs₀ =
    record { answer = pick (begins bytes out₀) (accepted_with (length bytes) (record { 0 = w }) (record { 0 = i })) (Err short); output = out₀; scratch = bs₀ }
kept (refused n p) out₀ bs₀ = record { answer = Err (record { 0 = why_of n; 1 = p }); output = out₀; scratch = bs₀ }

-- it hands on a refusal, number and place
pub kept_refuses : (w : Why) (p : ℕ) (out₀ : List ℕ) (bs₀ : List (List ℕ)) → (kept (refused (number_of w) p) out₀ bs₀).answer ≡ Err (record { 0 = w; 1 = p })
unfolding kept
kept_refuses w p out₀ bs₀ = ap (λ (x : Why). Err (record { 0 = x; 1 = p })) (found w)

abbrev keeper : Evaluator
keeper s budget out₀ bs₀ = kept (answer s budget (length out₀)) out₀ bs₀

kept_begins : (a : Answer) (out₀ : List ℕ) (bs₀ : List (List ℕ)) (n : ℕ) (w : Work) (i : Inferences) → (kept a out₀ bs₀).answer ≡ accepted_with n w i →
    (bytes : List ℕ) × (v : ℕ) × (j : ℕ) × (a ≡ accepted bytes v j) × (begins bytes out₀ ≡ true)
unfolding kept pick
kept_begins (accepted bytes v j) out₀ bs₀ n w i e = (bytes, v, j, refl, by_test (begins bytes out₀) refl e)
  where
    by_test : (t : Bool) → begins bytes out₀ ≡ t → pick t (accepted_with (length bytes) (record { 0 = v }) (record { 0 = j })) (Err short) ≡ accepted_with n w i → begins bytes out₀ ≡ true
    by_test true f e = f
    by_test false f e = absurd (clash cc)
kept_begins (refused m p) out₀ bs₀ n w i e = absurd (clash cc)

pub keeper_accepts_what_is_there : AcceptsWhatIsThere keeper
unfolding AcceptsWhatIsThere AcceptsExactly
keeper_accepts_what_is_there s S end budget n w i out₀ bs₀ d u small reads derives e =
    let (bytes, v, j, is, f) = kept_begins (answer s budget (length out₀)) out₀ bs₀ n w i e in
    let (d', derives', _, bytes_are, _, _) = (accepts_exactly s S end budget (length out₀) bytes v j reads small).0 is in
    begins_fronted bytes out₀ f ∙ ap (λ (b : List ℕ). fronted b out₀) (bytes_are ∙ ap certificate (determined derives' derives).0)

-- it lets everything stand, with no inference, and touches nothing
abbrev nodder : Checker
nodder s bytes ns fs ps hs bs = record { answer = stands_with 0 (record { 0 = 0 }); names = ns; forms = fs; patterns = ps; phrases = hs; base = bs }

pub nodder_accepts : AcceptsAll nodder
unfolding AcceptsAll
nodder_accepts s bytes ns fs ps hs bs long = (0, (record { 0 = 0 }), refl)

pub nodder_ignores_base : IgnoresBase nodder
unfolding IgnoresBase
nodder_ignores_base s s' bytes ns fs ps hs bs S S' end end' x y = refl

pub nodder_counts_none : CountsNone nodder
unfolding CountsNone
nodder_counts_none s bytes ns fs ps hs bs k i e = sym (stands_parts e).1

pub nodder_leaves_scratch : LeavesCheckScratch nodder
unfolding LeavesCheckScratch
nodder_leaves_scratch s bytes ns fs ps hs bs = refl

-- it lets nothing stand
abbrev denier : Checker
denier s bytes ns fs ps hs bs = record { answer = Err cut; names = ns; forms = fs; patterns = ps; phrases = hs; base = bs }

pub denier_refuses : RefusesAll denier
unfolding RefusesAll
denier_refuses s bytes ns fs ps hs bs = (cut, refl)

-- it takes the stated conclusion, whatever the proof
unfoldable pub last_of : ℕ → List ℕ → ℕ
last_of d [] = d
last_of d (x ∷ xs) = last_of x xs

last_is : (d k : ℕ) (xs : List ℕ) → last_of d (xs ++ (k ∷ [])) ≡ k
unfolding last_of
last_is d k [] = refl
last_is d k (x ∷ xs) = last_is x k xs

abbrev believer : Checker
believer s bytes ns fs ps hs bs = record { answer = stands_with (last_of 0 bytes) (record { 0 = 0 }); names = ns; forms = fs; patterns = ps; phrases = hs; base = bs }

pub believer_ignores_conclusion : IgnoresConclusion believer
unfolding IgnoresConclusion
believer_ignores_conclusion s before ns fs ps hs bs k j i h e =
    let x : 0 ≡ i.0 = (stands_parts e).1 in
    ap (λ (a : ℕ). stands_with a (record { 0 = 0 })) (last_is 0 j before) ∙ ap (λ (b : ℕ). stands_with j (record { 0 = b })) x
