use native.Mathlib.Omega.{arith}
use Rattle.frame.specs.Forms.{columns_in, flags_in, widths_in, pads_in}
use Rattle.reader.proofs.Frames.{StringFrame, ListFrame, BlockFrame, read_by, no_insert-char, read_insert, read_delete, read_join, read_replace, read_split, read_block, read_chunked}
use Rattle.reader.proofs.read_edit.Goals.{In-DeleteBlockChunks, In-InsertBlock, In-InsertStr, In-Replace, In-SplitLines}
use Rattle.reader.proofs.read_edit.Goals as goal

-- what the frame is, in each arm that reads more of it
insert : (c : In-InsertStr) → StringFrame c.args.bytes.now c.args.edit 9
insert c = read_insert c.args.bytes.now c.args.edit c.requires _ c.in-InsertStr.is

split : (c : In-SplitLines) → ListFrame c.args.bytes.now c.args.edit 5 columns_in flags_in
split c = read_split c.args.bytes.now c.args.edit c.requires _ c.in-SplitLines.is

replace : (c : In-Replace) → StringFrame c.args.bytes.now c.args.edit 17
replace c = read_replace c.args.bytes.now c.args.edit c.requires _ _ c.in-Replace.is

block : (c : In-InsertBlock) → BlockFrame c.args.bytes.now c.args.edit
block c = read_block c.args.bytes.now c.args.edit c.requires _ c.in-InsertBlock.is

chunked : (c : In-DeleteBlockChunks) → ListFrame c.args.bytes.now c.args.edit 9 widths_in pads_in
chunked c = read_chunked c.args.bytes.now c.args.edit c.requires _ c.in-DeleteBlockChunks.is

pub read_string-requires : goal.read_string-requires
read_string-requires c = let w = insert (goal.at.read_string-requires c).In-InsertStr in (omega arith, w.1)

pub slice_bounds-read_columns-count : goal.slice_bounds-read_columns-count
slice_bounds-read_columns-count c = let w = split (goal.at.slice_bounds-read_columns-count c).In-SplitLines in omega arith

pub slice_bounds-read_columns-start : goal.slice_bounds-read_columns-start
slice_bounds-read_columns-start c = let w = split (goal.at.slice_bounds-read_columns-start c).In-SplitLines in omega arith

pub read_string-requires-in-Replace : goal.read_string-requires-in-Replace
read_string-requires-in-Replace c = let w = replace (goal.at.read_string-requires-in-Replace c).In-Replace in (omega arith, w.1)

pub slice_bounds-read_chunks-count : goal.slice_bounds-read_chunks-count
slice_bounds-read_chunks-count c = let w = block (goal.at.slice_bounds-read_chunks-count c).In-InsertBlock in omega arith

pub slice_bounds-read_chunks-start : goal.slice_bounds-read_chunks-start
slice_bounds-read_chunks-start c = let w = block (goal.at.slice_bounds-read_chunks-start c).In-InsertBlock in omega arith

pub read_chunks-requires : goal.read_chunks-requires
read_chunks-requires c = let w = block (goal.at.read_chunks-requires c).In-InsertBlock in (w.1, w.2)

pub slice_bounds-read_widths-count : goal.slice_bounds-read_widths-count
slice_bounds-read_widths-count c = let w = chunked (goal.at.slice_bounds-read_widths-count c).In-DeleteBlockChunks in omega arith

pub slice_bounds-read_widths-start : goal.slice_bounds-read_widths-start
slice_bounds-read_widths-start c = let w = chunked (goal.at.slice_bounds-read_widths-start c).In-DeleteBlockChunks in omega arith

pub returns-in-InsertChar : goal.returns-in-InsertChar
returns-in-InsertChar c = absurd (no_insert-char c.args.bytes.now _ c.requires _ c.in-InsertChar.is)

pub returns-in-InsertStr : goal.returns-in-InsertStr
returns-in-InsertStr c = let a = c.args in let w = insert (goal.at.returns-in-InsertStr c).In-InsertStr in read_by _ _ _ a.payload.now a.first.now a.second.now (c.read_string.ensures a.first.now a.second.now) w.2

pub returns-in-DeleteRange : goal.returns-in-DeleteRange
returns-in-DeleteRange c = let a = c.args in read_by _ _ _ a.payload.now a.first.now a.second.now (c.bare.ensures a.payload.now a.first.now a.second.now) (read_delete a.bytes.now _ c.requires _ _ _ c.in-DeleteRange.is)

pub returns-in-JoinLines : goal.returns-in-JoinLines
returns-in-JoinLines c = let a = c.args in read_by _ _ _ a.payload.now a.first.now a.second.now (c.bare-in-JoinLines.ensures a.payload.now a.first.now a.second.now) (read_join a.bytes.now _ c.requires _ _ _ c.in-JoinLines.is)

pub returns-in-SplitLines : goal.returns-in-SplitLines
returns-in-SplitLines c = let a = c.args in let w = split (goal.at.returns-in-SplitLines c).In-SplitLines in read_by _ _ _ a.payload.now a.first.now a.second.now (c.read_columns.ensures a.payload.now) w.1

pub returns-in-Replace : goal.returns-in-Replace
returns-in-Replace c = let a = c.args in let w = replace (goal.at.returns-in-Replace c).In-Replace in read_by _ _ _ a.payload.now a.first.now a.second.now (c.read_string-in-Replace.ensures a.first.now a.second.now) w.2

pub returns-in-InsertBlock : goal.returns-in-InsertBlock
returns-in-InsertBlock c = let a = c.args in let w = block (goal.at.returns-in-InsertBlock c).In-InsertBlock in read_by _ _ _ a.payload.now a.first.now a.second.now (c.read_chunks.ensures a.second.now) w.3

pub returns-in-DeleteBlockChunks : goal.returns-in-DeleteBlockChunks
returns-in-DeleteBlockChunks c = let a = c.args in let w = chunked (goal.at.returns-in-DeleteBlockChunks c).In-DeleteBlockChunks in read_by _ _ _ a.payload.now a.first.now a.second.now (c.read_widths.ensures a.payload.now) w.1
