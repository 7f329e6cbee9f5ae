-- `hits::run` meets its contract: what is written is what is printed for the first bytes, which decide.
-- Assumes nothing.
use Rattle.std.proofs.Common.{◌∙◌}
use Rattle.std.proofs.lemmas.Result.{IfOk-at_ok, on_ok_weaker}
use Rattle.hits.proofs.Running.{with_error, written}
use Rattle.hits.proofs.run.Goals as goal

pub returns : goal.returns
returns g c =
    let read = IfOk-at_ok _ c.in_ok-n.was (with_error _ _ _ _ c.map_err.ensures.cases c.map_err.ensures.variant c.read_front.ensures.front) in
    let text = c.as_slice.ensures.value ∙ c.report.ensures in
    with_error _ _ _ _ c.map_err-2.ensures.cases c.map_err-2.ensures.variant
    (on_ok_weaker c.write_all.result (written _ c.read_front.new.buf _ _ _ _ c.read_front.auto.buf read text) c.write_all.ensures.bytes)
