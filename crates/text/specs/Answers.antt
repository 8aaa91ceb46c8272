-- What each case of an answer says in document 01's words.
use Rattle.promise.specs.Paper.{Paper, done, refused}
use Rattle.text.specs.declared.Position.{Position}
use Rattle.std.specs.Prelude.{Result, Ok, Err}
use Rattle.utf8.specs.declared.BadText.{BadText}

-- 1 BadText: "used length over buffer or 16,384; an inadmissible value".
abbrev pub paper_clamped : Result Position BadText → Paper Position
paper_clamped (Ok p) = done p
paper_clamped (Err e) = refused 1 0
