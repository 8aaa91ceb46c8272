use mathlib.Core.List.{[]}
use native.Mathlib.Omega.{arith}
use lib.ListN.{length-take, length-drop}
use Rattle.std.proofs.lemmas.Result.{err_from_is_err_and}
use Rattle.edit.proofs.Workers.{fine_text, undoable-bad, undoable-fine}
use Rattle.edit.specs.Call.{lent}
use Rattle.view.proofs.undo.undoable.Goals as goal

pub returns-in_err-judge : goal.returns-in_err-judge
returns-in_err-judge c = let a = c.args in λ op of os. let p = err_from_is_err_and c.from_residual.result c.from_residual.ensures.1 in rw (p.1, p.2) (undoable-bad a.view a.edit (lent a.buffer.now a.payload.now a.first.now a.second.now op of os) _ (c.judge.ensures op of os) _ c.in_err-judge.was)

pub slice_bounds-is_undoable-end : goal.slice_bounds-is_undoable-end
slice_bounds-is_undoable-end c = let a = c.args in (fine_text a.view a.edit (lent a.buffer.now a.payload.now a.first.now a.second.now [] [] []) _ (c.judge.ensures [] [] []) c.in_ok-judge.was).0

pub is_undoable-requires : goal.is_undoable-requires
is_undoable-requires c = let a = c.args in let g = fine_text a.view a.edit (lent a.buffer.now a.payload.now a.first.now a.second.now [] [] []) _ (c.judge.ensures [] [] []) c.in_ok-judge.was in simp (length-take, length-drop) (omega arith)

pub returns : goal.returns
returns c = let a = c.args in λ op of os. undoable-fine a.view a.edit (lent a.buffer.now a.payload.now a.first.now a.second.now op of os) _ (c.judge.ensures op of os) _ c.in_ok-judge.was c.is_undoable.ensures
