-- What reading a sheet leaves in buffers of these lengths is what evaluating one of its expressions asks.
use mathlib.Core.Path.{◌≡◌, sym, ap, ◌∙◌}
use mathlib.Core.List.{List}
use Prim.Native.Nat.{ℕ, ◌*◌, ◌<◌}
use native.Mathlib.Omega.{arith}
use lib.ListN.{length, get_or}
use Rattle.reader.specs.declared.Counts.{Counts}
use Rattle.std.specs.Prelude.{Result, Ok}
use Rattle.language.specs.Numbered.{numbered}
use Rattle.language.specs.declared.refusal.Refusal.{Refusal}
use Rattle.reader.specs.Laid.{Laid}
use Rattle.expressions.specs.Machine.{shared, mk, counters}
use Rattle.expressions.specs.Asked.{Ready}
use Rattle.expressions.proofs.Sheets.{ready_sheet}

pub phrase_ready :
    (s : List ℕ) (r : Result Counts Refusal) (c : Counts) (ns₀ fs₀ ps₀ hs₀ bs₀ ns fs ps hs bs binds : List ℕ) →
    Laid s r ns₀ fs₀ ps₀ hs₀ bs₀ ns fs ps hs bs → r ≡ Ok c → length fs ≡ 4610 → length ps ≡ length ps₀ → length ps ≡ 640 → length hs ≡ length hs₀ →
    length hs ≡ 6144 → length binds ≡ 16384 → (k : ℕ) → k < c.phrases → get_or hs (12 * k) 0 < 16 →
    Ready (shared hs ps) (mk fs binds (counters c.words 0 1024)) 0 k 0 0
phrase_ready s r c ns₀ fs₀ ps₀ hs₀ bs₀ ns fs ps hs bs binds L told f ps-kept p hs-kept h b k l low =
    let read : Laid s (Ok c) ns₀ fs₀ ps₀ hs₀ bs₀ ns fs ps hs bs =
    record { answered = sym (ap (λ (x : Result Counts Refusal). numbered x) told) ∙ L.answered; names = L.names; forms = L.forms; patterns = L.patterns; phrases = L.phrases; base = L.base } in
    ready_sheet s c ns₀ fs₀ ps₀ hs₀ bs₀ ns fs ps hs bs binds 1024 read hs-kept ps-kept (omega arith) (omega arith) (omega arith) (omega arith) (omega arith) (omega arith) k l low
