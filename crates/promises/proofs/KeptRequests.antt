-- Every promise of specs/Requests.antt, kept: each by the law that has it. Assumes nothing.
use Prim.Native.Nat.{ℕ, zero, suc}
use mathlib.Core.Path.{◌≡◌, refl, sym, ap, ◌∙◌}
use mathlib.Core.List.{List, [], ◌∷◌, ◌++◌}
use mathlib.Core.Bool.{Bool, true, false}
use native.Mathlib.Omega.{arith}
use lib.ListN.{length}
use lib.Ieee.{binary64, nan_bits}
use Rattle.types.proofs.Limits.{ranged}
use Rattle.output.proofs.Back.{Reads}
use Rattle.heads.specs.Heads.{Message}
use Rattle.types.specs.Value.{Tree, Bytes}
use Rattle.types.specs.Limits.{in_range}
use Rattle.types.specs.declared.TConfiguration.{TConfiguration}
use Rattle.types.specs.declared.TType.{TType}
use Rattle.types.specs.declared.TType.TheVariants as T
use Rattle.heads.specs.Reader.{Reader}
use Rattle.numbers.specs.Varint.{got}
use Rattle.skip.specs.Skip.{skip_to}
use Rattle.skip.specs.declared.Skipped.{Skipped}
use Rattle.skip.specs.declared.Skipped.TheVariants as S
use Rattle.faults.proofs.States as there
use Rattle.days.specs.Day.{joined}
use Rattle.days.proofs.Rules.{accepted_exactly}
use Rattle.days.proofs.Files.{accepted_lists, one_list}
use Rattle.frame.specs.declared.FrameSkip.{FrameSkip}
use Rattle.frame.proofs.Bursts as bursts
use Rattle.promises.proofs.Within.{by_place}
use Rattle.promises.proofs.Inner as inner
use Rattle.input.specs.declared.DoneAnswer.{DoneAnswer}
use Rattle.single.specs.Held.{held}
use Rattle.single.specs.declared.Single.TheVariants.{Yes}
use Rattle.single.proofs.Formats.{has_pattern, from_pattern, is_nan, nan_is}
use Rattle.doubles.specs.Calls.{counts_call}
use Rattle.doubles.specs.declared.CountsAnswer.{CountsAnswer}
use Rattle.doubles.specs.declared.CountsAnswer.TheVariants as C
use Rattle.doubles.proofs.Theorems as counting
use Rattle.points.specs.declared.Replay.{Replay}
use Rattle.points.proofs.Stopped as replaying
use Rattle.point_laws.proofs.Unknown.{unknown_trial, unknown_points}
use Rattle.protocols.proofs.Same.{value_same}
use Rattle.binary_input.specs.Calls as bskip
use Rattle.binary_input.proofs.Call as binary-calls
use Rattle.transcode.specs.Letter.{letter_by, bytes_of_letter}
use Rattle.transcode.proofs.Return as protocols
use Rattle.transcode.proofs.Return.{Protocol}
use Rattle.transcode.proofs.Accepted as accepted
use Rattle.laws.specs.Written.{readable}
use Rattle.promises.specs.Requests.{Fed, as_skip, FrameAsSkip, FrameWhole, FrameStays, DayAccepted, DayGives, DayLists, DayOneList, FaultAsSkip, FaultBehind, FaultFirst, FaultPath, FaultFew, SingleYes, SingleNan, without, SinglesAsSkip, SinglesCounted, Steps, ReplayContinued, ReplayUnknown, BinarySkipExactly, OneValue, Side, compactly, binarily, words_of, pens_of, Translates}

-- frames
same_fed : (f g : FrameSkip) (bss : List (List ℕ)) → Fed f bss g → bursts.Fed f bss g
same_fed f g [] e = e
same_fed f g (bs ∷ bss) (r, t, e) = (r, t, same_fed r.state g bss e)

same_joined : (bss : List (List ℕ)) → bursts.joined bss ≡ joined bss
same_joined [] = refl
same_joined (bs ∷ bss) = ap (λ (l : List ℕ). bs ++ l) (same_joined bss)

same_skip : (x : Skipped) → bursts.skip_answer x ≡ as_skip x
same_skip (S.Done e) = refl
same_skip (S.Refused why) = refl

pub frame_as_skip : FrameAsSkip
frame_as_skip lim announced f g bss cs ds r i b e t m n =
    let j = same_joined bss in
    sym (bursts.early lim announced i f b bss g (same_fed f g bss e) cs ds r t m (ap (λ (l : List ℕ). length ((l ++ cs) ++ ds)) j ∙ n))
    ∙ ap (λ (l : List ℕ). bursts.skip_answer (skip_to ((l ++ cs) ++ ds) lim.message lim lim.depth T.Struct 0)) j
    ∙ same_skip (skip_to ((joined bss ++ cs) ++ ds) lim.message lim lim.depth T.Struct 0)

pub frame_whole : FrameWhole
frame_whole lim announced f g bss cs r i b e t n =
    let j = same_joined bss in
    bursts.whole_cut lim announced i f b bss g (same_fed f g bss e) cs r t (ap (λ (l : List ℕ). length (l ++ cs)) j ∙ n)
    ∙ ap (λ (l : List ℕ). bursts.skip_answer (skip_to (l ++ cs) lim.message lim lim.depth T.Struct 0)) j
    ∙ same_skip (skip_to (joined bss ++ cs) lim.message lim lim.depth T.Struct 0)

pub frame_stays : FrameStays
frame_stays = bursts.final_stays

-- the day file
pub day_accepted : DayAccepted
day_accepted = accepted_exactly

pub day_gives : DayGives
day_gives file k = (inner.check_gives file, inner.part_gives file k)

pub day_lists : DayLists
day_lists file h = accepted_lists file (by_place file h)

pub day_one_list : DayOneList
day_one_list = one_list

-- where a refusal came from
pub fault_as_skip : FaultAsSkip
fault_as_skip s st =
    (λ e f. sym (there.faults_skip s st) ∙ ap (there.over_of s st) f, λ why off path f. sym (there.faults_skip s st) ∙ ap (there.over_of s st) f)

pub fault_behind : FaultBehind
fault_behind s t st why off path e q l = there.faults_behind s st why off path e t q l

pub fault_first : FaultFirst
fault_first s st why off path e g =
    (there.faults_inside s st why off path e g, there.faults_first s st why off path e g, λ t q l d k f. there.faults_none_so_long s st why off path e g t q l d k f)

pub fault_path : FaultPath
fault_path s st why off path e g = let b = there.faults_breaks s st why off path e g in (b.number, b.read, b.way, b.told, b.offset)

pub fault_few : FaultFew
fault_few = there.faults_few

-- f32
pub single_yes : SingleYes
single_yes n = (λ e. (not_nan n e, has_pattern n e), λ w. from_pattern n w.1.0 w.1.2 w.0)
  where
    not_nan : (n : ℕ) → held n ≡ Yes → nan_bits binary64 n ≡ false
    not_nan n e = go (nan_bits binary64 n) refl
      where
        go : (b : Bool) → nan_bits binary64 n ≡ b → nan_bits binary64 n ≡ false
        go true f = let x = nan_is n f in let z : ◌≡◌ {A = ℕ} 0 1 = cc in absurd (omega arith)
        go false f = f

pub single_nan : SingleNan
single_nan n = (is_nan n, nan_is n)

same_without : (a : CountsAnswer) → counting.without a ≡ without a
same_without (C.Got c) = refl
same_without (C.Refused why) = refl

pub singles_as_skip : SinglesAsSkip
singles_as_skip s st = ap (λ (d : DoneAnswer). record { answer = d; state = (counts_call s st).state }) (sym (same_without (counts_call s st).answer)) ∙ counting.as_skip_lem s st

pub singles_counted : SinglesCounted
singles_counted s st c h f = let w = counting.counted_whole s st c h f in (w.0, w.1, w.2.the_yes, w.2.the_no, w.2.the_nan, w.2.all)

-- replay
same_steps : (s : List ℕ) (k : ℕ) (r q : Replay) → Steps s k r q → replaying.Steps s k r q
unfolding Steps replaying.Steps
same_steps s zero r q e = e
same_steps s (suc k) r q (p, m, f, g) = (p, m, f, same_steps s k m q g)

pub replay_continued : ReplayContinued
replay_continued s k r q g = replaying.continued s k r q (same_steps s k r q g)

pub replay_unknown : ReplayUnknown
replay_unknown = (unknown_trial, unknown_points)

-- the binary protocol
pub binary_skip_exactly : BinarySkipExactly
binary_skip_exactly s st kind o e = binary-calls.call_exact s st kind (bskip.skip_call s st kind) refl o e

pub one_value : OneValue
one_value lim room ty = ap (λ (v : TType → Reader Tree). v ty) (sym (value_same lim room))

-- the four pairs
module _ (lim : TConfiguration) (i : in_range lim ≡ true) (s : List ℕ) (h : Bytes s) (l : Message × Tree) (n : ℕ) where
  both : (p q : Protocol) → letter_by p.reads lim s ≡ got l n → Reads (letter_by q.reads lim) (l.0, readable l.1) (bytes_of_letter q.writes l) × Reads (letter_by p.reads lim) (l.0, readable l.1) (bytes_of_letter p.writes (l.0, readable l.1))
  both p q x = (accepted.same_there p q lim (ranged lim i) s h l n x, accepted.same_back p q lim (ranged lim i) s h l n x)

  each : (a b : Side) → letter_by (words_of a) lim s ≡ got l n → Reads (letter_by (words_of b) lim) (l.0, readable l.1) (bytes_of_letter (pens_of b) l) × Reads (letter_by (words_of a) lim) (l.0, readable l.1) (bytes_of_letter (pens_of a) (l.0, readable l.1))
  each compactly compactly x = both protocols.compact protocols.compact x
  each compactly binarily x = both protocols.compact protocols.binary x
  each binarily compactly x = both protocols.binary protocols.compact x
  each binarily binarily x = both protocols.binary protocols.binary x

pub translates : Translates
translates a b lim s l n i h e = each lim i s h l n a b e
