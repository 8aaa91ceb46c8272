-- Which lines stand in their place. "'first', 'once' and 'before edits' count only the other lines, refused ones included": what has
-- been seen of a script is whether there was a sound line, how many marks are kept, and whether there was an edit.
use Rattle.std.specs.Prelude.{Bool, true, cond, not, ◌&&◌, List, ℕ, suc, ltb}
use Rattle.text.specs.Rows.{in_text}
use Rattle.text.specs.Text.{is_lf}
use Rattle.select.specs.declared.Sel.{Sel}
use Rattle.frame.specs.Forms.{Form, malformed, text, mark, edit, line_form}
use Rattle.place.specs.declared.Place.{Place}

abbrev pub mark_limit : ℕ
mark_limit = 64

-- a mark's conditions: its ends "in the text, at most 64, before edits"
abbrev pub mark_ok : Place → List ℕ → Sel → Bool
mark_ok p t m = not p.edited && ltb p.marks mark_limit && in_text is_lf t m.anchor && in_text is_lf t m.head

-- "Malformed too are .. a text frame out of its place and a mark that breaks a condition above": the text "first and once"
unfoldable pub placed : Place → List ℕ → Form → Form
placed p t malformed = malformed
placed p t (text s) = cond p.sound malformed (text s)
placed p t (mark m) = cond (mark_ok p t m) (mark m) malformed
placed p t (edit e at ks f s) = edit e at ks f s

-- a line's form in its place: p has been seen, and t is the text
abbrev pub judged : Place → List ℕ → List ℕ → Form
judged p t l = placed p t (line_form l)

-- what has been seen with a line of this form
unfoldable pub seen : Place → Form → Place
seen p malformed = p
seen p (text s) = record { sound = true; marks = p.marks; edited = p.edited }
seen p (mark m) = record { sound = true; marks = suc p.marks; edited = p.edited }
seen p (edit e at ks f s) = record { sound = true; marks = p.marks; edited = true }
