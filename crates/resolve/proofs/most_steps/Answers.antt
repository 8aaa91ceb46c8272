use mathlib.Core.Path.{sym, ap, ◌∙◌}
use Rattle.edit.specs.declared.Edit.{Edit}
use Rattle.resolve.specs.Admits.{range_most, most_steps}
use Rattle.resolve.proofs.most_steps.Goals as goal

pub returns-in-InsertChar : goal.returns-in-InsertChar
unfolding most_steps range_most
returns-in-InsertChar c = sym (ap (λ (e : Edit). most_steps e c.args.items) c.in-InsertChar.is)

pub returns-in-InsertStr : goal.returns-in-InsertStr
unfolding most_steps range_most
returns-in-InsertStr c = sym (ap (λ (e : Edit). most_steps e c.args.items) c.in-InsertStr.is)

pub returns-in-Char : goal.returns-in-Char
unfolding most_steps range_most
returns-in-Char c = sym (ap (λ (e : Edit). most_steps e c.args.items) c.in-DeleteRange.is ∙ ap (range_most c.in-DeleteRange.start c.in-DeleteRange.end) c.in-Char.is)

pub returns-in-Line : goal.returns-in-Line
unfolding most_steps range_most
returns-in-Line c = sym (ap (λ (e : Edit). most_steps e c.args.items) c.in-DeleteRange.is ∙ ap (range_most c.in-DeleteRange.start c.in-DeleteRange.end) c.in-Line.is)

pub returns-in-Block : goal.returns-in-Block
unfolding most_steps range_most
returns-in-Block c = c.extent.ensures ∙ sym (ap (λ (e : Edit). most_steps e c.args.items) c.in-DeleteRange.is ∙ ap (range_most c.in-DeleteRange.start c.in-DeleteRange.end) c.in-Block.is)

pub returns-in-JoinLines : goal.returns-in-JoinLines
unfolding most_steps range_most
returns-in-JoinLines c = c.most_joins.ensures ∙ sym (ap (λ (e : Edit). most_steps e c.args.items) c.in-JoinLines.is)

pub returns-in-SplitLines : goal.returns-in-SplitLines
unfolding most_steps range_most
returns-in-SplitLines c = sym (ap (λ (e : Edit). most_steps e c.args.items) c.in-SplitLines.is)

pub returns-in-Replace : goal.returns-in-Replace
unfolding most_steps range_most
returns-in-Replace c = sym (ap (λ (e : Edit). most_steps e c.args.items) c.in-Replace.is)

pub returns-in-InsertBlock : goal.returns-in-InsertBlock
unfolding most_steps range_most
returns-in-InsertBlock c = sym (ap (λ (e : Edit). most_steps e c.args.items) c.in-InsertBlock.is)

pub returns-in-DeleteBlockChunks : goal.returns-in-DeleteBlockChunks
unfolding most_steps range_most
returns-in-DeleteBlockChunks c = sym (ap (λ (e : Edit). most_steps e c.args.items) c.in-DeleteBlockChunks.is)
