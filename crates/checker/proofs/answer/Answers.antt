-- `checker::answer` meets its contract: a sheet that is refused is answered so; one that is read leaves buffers that stand for it, and the certificate is answered there.
use Rattle.std.proofs.lemmas.Result.{err_from_is_err_and}
use Rattle.checker.proofs.SheetPassing.{sheet_ready, sheet_stops, sheet_goes_on}
use Rattle.checker.proofs.answer.Goals as goal

pub returns-in_err-c : goal.returns-in_err-c
returns-in_err-c c =
    let e = err_from_is_err_and c.from_residual.result c.from_residual.ensures.1 in
    rw (e.1, e.2) (sheet_stops _ _ _ _ _ _ _ _ _ _ _ c.requires _ c.read_sheet.ensures _ _ c.in_err-c.was)

pub against-requires : goal.against-requires
against-requires c =
    let k = c.read_sheet.auto in
    sheet_ready _ _ _ _ _ _ _ _ _ _ _ c.requires _ c.read_sheet.ensures _ c.in_ok-c.was k.names k.forms k.base

pub returns : goal.returns
returns c = sheet_goes_on _ _ _ _ _ _ _ _ _ _ _ c.requires _ c.read_sheet.ensures _ _ _ c.in_ok-c.was c.against.ensures
