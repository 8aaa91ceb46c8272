use mathlib.Core.Path.{refl, sym, ◌∙◌}
use Rattle.reader.specs.Calls.{read_into, frame_into}
use Rattle.reader.proofs.Frames.{read_by, read_malformed, read_as_text, read_as_mark}
use Rattle.reader.proofs.read_bytes.Goals as goal

pub read_text-requires : goal.read_text-requires
read_text-requires c = (read_as_text c.args.bytes.now (sym c.in-Text.is ∙ c.head_of-head.ensures)).0

pub read_edit-requires : goal.read_edit-requires
read_edit-requires c = sym c.head_of-head.ensures ∙ c.in-Edit.is

pub returns-in-Malformed : goal.returns-in-Malformed
unfolding read_into
returns-in-Malformed c = let a = c.args in read_by _ _ _ a.payload.now a.first.now a.second.now refl (read_malformed a.bytes.now (sym c.in-Malformed.is ∙ c.head_of-head.ensures))

pub returns-in-Text : goal.returns-in-Text
returns-in-Text c = let a = c.args in read_by _ _ _ a.payload.now a.first.now a.second.now (c.read_text.ensures a.first.now a.second.now) (read_as_text a.bytes.now (sym c.in-Text.is ∙ c.head_of-head.ensures)).1

pub returns-in-Mark : goal.returns-in-Mark
unfolding read_into frame_into
returns-in-Mark c = let a = c.args in read_by _ _ _ a.payload.now a.first.now a.second.now refl (read_as_mark a.bytes.now _ (sym c.in-Mark.is ∙ c.head_of-head.ensures))

pub returns-in-Edit : goal.returns-in-Edit
returns-in-Edit c = c.read_edit.ensures
