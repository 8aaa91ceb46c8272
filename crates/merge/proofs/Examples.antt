-- The examples of merging, computed.
use mathlib.Core.Path.{refl}
use Rattle.edit.specs.Call.{first_of}
use Rattle.sorting.specs.Flat.{flat, sels}
use Rattle.sorting.specs.Sorting.{insert, sorted}
use Rattle.merge.specs.Merging.{collapsed, collapse}
use Rattle.merge.specs.Call.{leaves, merged_in}
use Rattle.merge.specs.Examples.{Examples}

pub examples : Examples
unfolding first_of flat sels insert sorted collapsed collapse leaves merged_in
examples = record { touching = refl; equal = refl; chain = refl; empty = refl; bad_payload = refl; no_record = refl; too_many = refl; two_left = refl; exact = refl; full = refl }
