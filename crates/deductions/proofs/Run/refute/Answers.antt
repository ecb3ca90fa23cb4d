-- Where the proof concluded false: p⇒false, ¬false and ¬p are formed, and the tokens written.
use native.Mathlib.Omega.{arith}
use Rattle.forms.proofs.Interning.{sized}
use Rattle.deductions.proofs.Run.refute.Goals as goal

pub negation-absurd-requires : goal.negation-absurd-requires
negation-absurd-requires c =
    let s = sized _ _ _ _ _ (let h = c.requires.0 in omega (arith, h)) c.conditional-implied.ensures in
    let k = c.conditional-implied.auto.t in
    let h = c.requires in
    (omega (arith, s, k, h), omega arith)

pub negation-denied-requires : goal.negation-denied-requires
negation-denied-requires c =
    let s = sized _ _ _ _ _ (omega (arith, c.requires)) c.conditional-implied.ensures in
    let k = c.conditional-implied.auto.t in
    let s₂ = sized _ _ _ _ _ (omega (arith, s, k, c.requires)) c.negation-absurd.ensures in
    let k₂ = c.negation-absurd.auto.t in
    (omega (arith, s, k, s₂, k₂, c.requires), c.requires.4)

pub tollens-self-requires : goal.tollens-self-requires
tollens-self-requires c =
    let s = sized _ _ _ _ _ (omega (arith, c.requires)) c.conditional-implied.ensures in
    let k = c.conditional-implied.auto.t in
    let s₂ = sized _ _ _ _ _ (omega (arith, s, k, c.requires)) c.negation-absurd.ensures in
    (c.requires.2, c.requires.3, omega (arith, s, c.requires), omega (arith, s, s₂, c.requires))
