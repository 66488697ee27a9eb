-- W1: what a frame of an announced length has told once some of its bytes have come. Assumes nothing: these are definitions.
use Rattle.std.specs.Prelude.{ℕ, min, Bool, List, ltb}
use Rattle.types.specs.Refusals.{END}
use Rattle.types.specs.declared.TType.TheVariants as T
use Rattle.types.specs.declared.TConfiguration.{TConfiguration}
use Rattle.heads.specs.Reader.{missing}
use Rattle.frame.specs.Ask.{Told, ends, refuses, waits, told}
use Rattle.frame.specs.Plans.{Passed, skip_plan}

-- where the frame ends, or its ceiling cuts it: the ceiling counts from the frame's first byte
abbrev pub cut_of : TConfiguration → ℕ → ℕ
cut_of lim announced = min lim.message announced

-- what a missed byte is: MESSAGE SIZE where announced bytes lie behind the cut, END at the announced length
abbrev pub missed : Bool → Told Passed → Told Passed
missed more (ends u n) = ends u n
missed more (refuses why) = refuses (missing more why)
missed more waits = waits

-- "skip, knowing the announced length", over the bytes that have come so far, in whatever bursts: bytes past the announced length are never asked for
unfoldable pub frame : TConfiguration → ℕ → List ℕ → Told Passed
frame lim announced bs = missed (ltb lim.message announced) (told (skip_plan lim lim.depth T.Struct (cut_of lim announced)) bs)

-- "Closing early gives END unless a refusal came before"
abbrev pub closed : Told Passed → Told Passed
closed (ends u n) = ends u n
closed (refuses why) = refuses why
closed waits = refuses END
