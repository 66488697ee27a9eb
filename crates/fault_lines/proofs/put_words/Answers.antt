use borrow.Author.Rules.{rules}
use Rattle.fault_lines.proofs.Rows.{named, named_none}
use Rattle.fault_lines.specs.Told.{words_of}
use Rattle.fault_lines.proofs.put_words.Goals as goal

pub put_word-requires : goal.put_word-requires
unfolding words_of
put_word-requires c = search rules

pub put_word-requires-in-1 : goal.put_word-requires-in-1
unfolding words_of
put_word-requires-in-1 c = search rules

pub put_word-requires-in-2 : goal.put_word-requires-in-2
unfolding words_of
put_word-requires-in-2 c = search rules

pub put_word-requires-in-3 : goal.put_word-requires-in-3
unfolding words_of
put_word-requires-in-3 c = search rules

pub put_word-requires-in-4 : goal.put_word-requires-in-4
unfolding words_of
put_word-requires-in-4 c = search rules

pub put_word-requires-in-5 : goal.put_word-requires-in-5
unfolding words_of
put_word-requires-in-5 c = search rules

pub put_word-requires-in-6 : goal.put_word-requires-in-6
unfolding words_of
put_word-requires-in-6 c = search rules

pub put_word-requires-in-7 : goal.put_word-requires-in-7
unfolding words_of
put_word-requires-in-7 c = search rules

pub put_word-requires-in-8 : goal.put_word-requires-in-8
unfolding words_of
put_word-requires-in-8 c = search rules

pub put_word-requires-in-9 : goal.put_word-requires-in-9
unfolding words_of
put_word-requires-in-9 c = search rules

pub put_word-requires-in-10 : goal.put_word-requires-in-10
unfolding words_of
put_word-requires-in-10 c = search rules

pub put_word-requires-in-11 : goal.put_word-requires-in-11
unfolding words_of
put_word-requires-in-11 c = search rules

pub put_word-requires-in-12 : goal.put_word-requires-in-12
unfolding words_of
put_word-requires-in-12 c = search rules

pub put_word-requires-in-13 : goal.put_word-requires-in-13
unfolding words_of
put_word-requires-in-13 c = search rules

pub put_word-requires-in-14 : goal.put_word-requires-in-14
unfolding words_of
put_word-requires-in-14 c = search rules

pub put_word-requires-in-15 : goal.put_word-requires-in-15
unfolding words_of
put_word-requires-in-15 c = search rules

pub put_word-requires-in-16 : goal.put_word-requires-in-16
unfolding words_of
put_word-requires-in-16 c = search rules

pub put_word-requires-in-17 : goal.put_word-requires-in-17
unfolding words_of
put_word-requires-in-17 c = search rules

pub put_word-requires-in-18 : goal.put_word-requires-in-18
unfolding words_of
put_word-requires-in-18 c = search rules

pub put_word-requires-in-19 : goal.put_word-requires-in-19
unfolding words_of
put_word-requires-in-19 c = search rules

pub put_word-requires-in_default : goal.put_word-requires-in_default
unfolding words_of
put_word-requires-in_default c = search rules

pub shape_of-out-in-0 : goal.shape_of-out-in-0
unfolding words_of
shape_of-out-in-0 c = search rules

pub returns-in-0 : goal.returns-in-0
unfolding words_of
returns-in-0 c = search named

pub shape_of-out-in-1 : goal.shape_of-out-in-1
unfolding words_of
shape_of-out-in-1 c = search rules

pub returns-in-1 : goal.returns-in-1
unfolding words_of
returns-in-1 c = search named

pub shape_of-out-in-2 : goal.shape_of-out-in-2
unfolding words_of
shape_of-out-in-2 c = search rules

pub returns-in-2 : goal.returns-in-2
unfolding words_of
returns-in-2 c = search named

pub shape_of-out-in-3 : goal.shape_of-out-in-3
unfolding words_of
shape_of-out-in-3 c = search rules

pub returns-in-3 : goal.returns-in-3
unfolding words_of
returns-in-3 c = search named

pub shape_of-out-in-4 : goal.shape_of-out-in-4
unfolding words_of
shape_of-out-in-4 c = search rules

pub returns-in-4 : goal.returns-in-4
unfolding words_of
returns-in-4 c = search named

pub shape_of-out-in-5 : goal.shape_of-out-in-5
unfolding words_of
shape_of-out-in-5 c = search rules

pub returns-in-5 : goal.returns-in-5
unfolding words_of
returns-in-5 c = search named

pub shape_of-out-in-6 : goal.shape_of-out-in-6
unfolding words_of
shape_of-out-in-6 c = search rules

pub returns-in-6 : goal.returns-in-6
unfolding words_of
returns-in-6 c = search named

pub shape_of-out-in-7 : goal.shape_of-out-in-7
unfolding words_of
shape_of-out-in-7 c = search rules

pub returns-in-7 : goal.returns-in-7
unfolding words_of
returns-in-7 c = search named

pub shape_of-out-in-8 : goal.shape_of-out-in-8
unfolding words_of
shape_of-out-in-8 c = search rules

pub returns-in-8 : goal.returns-in-8
unfolding words_of
returns-in-8 c = search named

pub shape_of-out-in-9 : goal.shape_of-out-in-9
unfolding words_of
shape_of-out-in-9 c = search rules

pub returns-in-9 : goal.returns-in-9
unfolding words_of
returns-in-9 c = search named

pub shape_of-out-in-10 : goal.shape_of-out-in-10
unfolding words_of
shape_of-out-in-10 c = search rules

pub returns-in-10 : goal.returns-in-10
unfolding words_of
returns-in-10 c = search named

pub shape_of-out-in-11 : goal.shape_of-out-in-11
unfolding words_of
shape_of-out-in-11 c = search rules

pub returns-in-11 : goal.returns-in-11
unfolding words_of
returns-in-11 c = search named

pub shape_of-out-in-12 : goal.shape_of-out-in-12
unfolding words_of
shape_of-out-in-12 c = search rules

pub returns-in-12 : goal.returns-in-12
unfolding words_of
returns-in-12 c = search named

pub shape_of-out-in-13 : goal.shape_of-out-in-13
unfolding words_of
shape_of-out-in-13 c = search rules

pub returns-in-13 : goal.returns-in-13
unfolding words_of
returns-in-13 c = search named

pub shape_of-out-in-14 : goal.shape_of-out-in-14
unfolding words_of
shape_of-out-in-14 c = search rules

pub returns-in-14 : goal.returns-in-14
unfolding words_of
returns-in-14 c = search named

pub shape_of-out-in-15 : goal.shape_of-out-in-15
unfolding words_of
shape_of-out-in-15 c = search rules

pub returns-in-15 : goal.returns-in-15
unfolding words_of
returns-in-15 c = search named

pub shape_of-out-in-16 : goal.shape_of-out-in-16
unfolding words_of
shape_of-out-in-16 c = search rules

pub returns-in-16 : goal.returns-in-16
unfolding words_of
returns-in-16 c = search named

pub shape_of-out-in-17 : goal.shape_of-out-in-17
unfolding words_of
shape_of-out-in-17 c = search rules

pub returns-in-17 : goal.returns-in-17
unfolding words_of
returns-in-17 c = search named

pub shape_of-out-in-18 : goal.shape_of-out-in-18
unfolding words_of
shape_of-out-in-18 c = search rules

pub returns-in-18 : goal.returns-in-18
unfolding words_of
returns-in-18 c = search named

pub shape_of-out-in-19 : goal.shape_of-out-in-19
unfolding words_of
shape_of-out-in-19 c = search rules

pub returns-in-19 : goal.returns-in-19
unfolding words_of
returns-in-19 c = search named

pub shape_of-out-in_default : goal.shape_of-out-in_default
unfolding words_of
shape_of-out-in_default c = search rules

pub returns-in_default : goal.returns-in_default
unfolding words_of
returns-in_default c = search named_none
