-- What the two public functions answer and leave in the buffers is determined: any two results that their contracts allow are one.
use Prim.Native.Nat.{ℕ}
use mathlib.Core.Path.{◌≡◌, sym, ap, ◌∙◌}
use mathlib.Core.List.{List}
use Rattle.std.specs.Prelude.{Result, Ok, Err}
use Rattle.language.specs.declared.refusal.Refusal.{Refusal}
use Rattle.reader.specs.declared.Counts.{Counts}
use Rattle.records.specs.Reading.{Props}
use Rattle.records.proofs.Once.{ends_once}
use Rattle.theorems.proofs.Refusals.{numbered_once}
use Rattle.reader.specs.declared.Named.{Named}
use Rattle.reader.specs.Laid.{Propositions, Laid}

pub propositions_once : (P : Props) (r r' : Named) (ns₀ fs₀ ns fs ns' fs' : List ℕ) → Propositions P r ns₀ fs₀ ns fs → Propositions P r' ns₀ fs₀ ns' fs' → (r ≡ r') × (ns ≡ ns') × (fs ≡ fs')
propositions_once P r r' ns₀ fs₀ ns fs ns' fs' a b = (same, a.names ∙ sym b.names, a.forms ∙ sym b.forms)
  where
    same : r ≡ r'
    same =
        ap {B = Named} (λ (x : ℕ). record { props = x; words = r.words; ended = r.ended }) (a.props ∙ sym b.props)
        ∙ ap {B = Named} (λ (x : ℕ). record { props = r'.props; words = x; ended = r.ended }) (a.words ∙ sym b.words)
        ∙ ap {B = Named} (λ (x : Result ℕ Refusal). record { props = r'.props; words = r'.words; ended = x }) (ends_once r.ended r'.ended (a.ended ∙ sym b.ended))

pub sheet_once : (s : List ℕ) (r r' : Result Counts Refusal) (ns₀ fs₀ ps₀ hs₀ bs₀ ns fs ps hs bs ns' fs' ps' hs' bs' : List ℕ)
    → Laid s r ns₀ fs₀ ps₀ hs₀ bs₀ ns fs ps hs bs → Laid s r' ns₀ fs₀ ps₀ hs₀ bs₀ ns' fs' ps' hs' bs'
    → (r ≡ r') × (ns ≡ ns') × (fs ≡ fs') × (ps ≡ ps') × (hs ≡ hs') × (bs ≡ bs')
sheet_once s r r' ns₀ fs₀ ps₀ hs₀ bs₀ ns fs ps hs bs ns' fs' ps' hs' bs' a b =
    (numbered_once r r' (a.answered ∙ sym b.answered), a.names ∙ sym b.names, a.forms ∙ sym b.forms, a.patterns ∙ sym b.patterns, a.phrases ∙ sym b.phrases, a.base ∙ sym b.base)
