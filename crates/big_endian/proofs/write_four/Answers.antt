use native.Mathlib.Omega.{arith}
use lib.ListN.{length-set}
use Rattle.big_endian.proofs.Cases.{four_left}
use Rattle.big_endian.proofs.write_four.Goals as goal

pub bounds-buf-at-2 : goal.bounds-buf-at-2
bounds-buf-at-2 c = simp length-set (omega arith)

pub bounds-buf-at-3 : goal.bounds-buf-at-3
bounds-buf-at-3 c = simp length-set (omega arith)

pub bounds-buf-at-4 : goal.bounds-buf-at-4
bounds-buf-at-4 c = simp length-set (omega arith)

pub returns : goal.returns
returns c = search four_left
