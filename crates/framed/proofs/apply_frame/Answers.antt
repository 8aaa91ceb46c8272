use mathlib.Core.Path.{◌≡◌, sym, ◌∙◌}
use Prim.Native.Nat.{ℕ}
use Rattle.frame.specs.Forms.{line_form}
use Rattle.framed.proofs.AmongEdits.{edit_head, edit_applied, other_applied}
use native.Mathlib.Omega.{arith}
use Rattle.framed.proofs.apply_frame.Goals as goal

pub apply_edit_line-requires : goal.apply_edit_line-requires
apply_edit_line-requires c = edit_head (line_form c.args.line.now) c.judge-head.result c.judge-head.ensures _ c.in-Edit.is

pub returns-in-Edit : goal.returns-in-Edit
returns-in-Edit c = edit_applied (line_form c.args.line.now) c.judge-head.result c.judge-head.ensures c.args.view c.args.text.now c.args.outpayload.now c.args.outfirst.now c.args.outsecond.now _ c.in-Edit.is _ c.apply_edit_line.ensures

pub returns-in-Malformed : goal.returns-in-Malformed
returns-in-Malformed c = other_applied (line_form c.args.line.now) c.judge-head.result c.judge-head.ensures c.args.view c.args.text.now c.args.outpayload.now c.args.outfirst.now c.args.outsecond.now (λ e q. let w = sym c.in-Malformed.is ∙ q in let z : ◌≡◌ {A = ℕ} 0 1 = cc in omega arith)

pub returns-in-Text : goal.returns-in-Text
returns-in-Text c = other_applied (line_form c.args.line.now) c.judge-head.result c.judge-head.ensures c.args.view c.args.text.now c.args.outpayload.now c.args.outfirst.now c.args.outsecond.now (λ e q. let w = sym c.in-Text.is ∙ q in let z : ◌≡◌ {A = ℕ} 0 1 = cc in omega arith)

pub returns-in-Mark : goal.returns-in-Mark
returns-in-Mark c = other_applied (line_form c.args.line.now) c.judge-head.result c.judge-head.ensures c.args.view c.args.text.now c.args.outpayload.now c.args.outfirst.now c.args.outsecond.now (λ e q. let w = sym c.in-Mark.is ∙ q in let z : ◌≡◌ {A = ℕ} 0 1 = cc in omega arith)
