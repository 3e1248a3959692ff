-- `is_script`: what is left decides. Assumes nothing.
use Rattle.std.proofs.Common.{◌≡◌, length}
use Rattle.export_scripts.specs.Script.{is_script}
use Rattle.export_scripts.proofs.script.is_script.Given as goal

abbrev pub invariant-loop-rest : goal.invariant-loop-rest
invariant-loop-rest l = is_script l.most l.rest ≡ is_script l.most l.script

abbrev pub decreases-loop-rest : goal.decreases-loop-rest
decreases-loop-rest l = length l.rest
