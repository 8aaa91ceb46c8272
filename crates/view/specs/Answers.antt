-- What each case of an answer says in document 01's words.
use Rattle.promise.specs.Paper.{Paper, done, refused}
use Rattle.edit.specs.declared.View.{View}
use Rattle.std.specs.Prelude.{Result, Ok, Err}
use Rattle.utf8.specs.declared.BadText.{BadText}

abbrev pub paper_cursor_set : Result View BadText → Paper View
paper_cursor_set (Ok v) = done v
paper_cursor_set (Err e) = refused 1 0
