-- The bytes of a part are those that its reader read. Assumes nothing.
use mathlib.Core.Path.{◌≡◌, refl, sym, ap, ap₂, ◌∙◌}
use mathlib.Core.Bool.{Bool, true, false}
use mathlib.Core.List.{List}
use Prim.Native.Nat.{ℕ, ◌+◌, ◌-◌, ◌/◌, ◌%◌, ◌≤◌}
use native.Mathlib.Omega.{arith}
use borrow.Author.Tests.{leb-true}
use lib.Dec.{leb, eqb}
use lib.ListN.{length, take, drop, length-drop}
use lib.Seq.{slice, length-take-le}
use mir.Syntax.{w32}
use mir.Val.{to_z}
use Rattle.types.specs.Refusals.{SIZE_LIMIT, BAD_UTF8, BAD_VERSION}
use Rattle.types.specs.Codes.{message_by_number}
use Rattle.types.specs.declared.TMessageType.{TMessageType}
use Rattle.types.specs.declared.TConfiguration.{TConfiguration}
use Rattle.utf8.specs.Utf8.{utf8}
use Rattle.numbers.specs.Varint.{got}
use Rattle.numbers.proofs.Found.{take_drop}
use Rattle.heads.specs.Reader.{Reader, done, and_then, provided, byte, some, read_at}
use Rattle.heads.specs.Heads.{number32, uuid, binary, text, Message, message_typed, named, versioned, message}
use Rattle.heads.proofs.Lawful.{Lawful, Takes, not_both}
use Rattle.heads.proofs.Steps.{split, found_at, done_at}
use Rattle.heads.proofs.Readers.{uuid_lawful, uuid_takes, number32_lawful, number32_takes}

-- they stand just before the end, which is in the input
pub record Tail (s cs : List ℕ) (e : ℕ) : Type 0 where
  pub fits : length cs ≤ e
  pub inside : e ≤ length s
  pub is : take (length cs) (drop (e - length cs) s) ≡ cs

some_tail : (s : List ℕ) (n at : ℕ) (cs : List ℕ) (e : ℕ) → at ≤ length s → read_at (some n) s at ≡ got cs e → Tail s cs e
unfolding read_at some
some_tail s n at cs e h f = go (leb n (length (drop at s))) refl
  where
    go : (b : Bool) → leb n (length (drop at s)) ≡ b → Tail s cs e
    go true g =
        let k : got (take n (drop at s)) (at + n) ≡ got cs e = rw g at f in
        let l : take n (drop at s) ≡ cs = cc in
        let ee : at + n ≡ e = cc in
        let le : n ≤ length (drop at s) = leb-true _ _ g in
        let fit : length cs ≡ n = ap length (sym l) ∙ length-take-le n (drop at s) le in
        let start : e - length cs ≡ at = omega arith in
        record { fits = omega arith; inside = omega (arith, length-drop at s); is = rw (start, fit) l }
    go false g = not_both (rw g at f)

allowed : {A : Type 0} (ok : Bool) (why : ℕ) (p : Reader A) (s : List ℕ) (at : ℕ) (a : A) (e : ℕ) → read_at (provided ok why p) s at ≡ got a e → read_at p s at ≡ got a e
unfolding read_at provided
allowed true why p s at a e f = f
allowed false why p s at a e f = not_both f

-- a reader that takes a byte ends in the input
pub ends_inside : {A : Type 0} (p : Reader A) → Lawful p → Takes p → (s : List ℕ) (at : ℕ) (a : A) (e : ℕ) → read_at p s at ≡ got a e → e ≤ length s
unfolding read_at
ends_inside p l t s at a e f =
    let g = found_at at (p (drop at s)) a e f in
    omega (arith, l.ends (drop at s) a g.0 g.1, t (drop at s) a g.0 g.1, length-drop at s, g.2)

pub uuid_tail : (s : List ℕ) (at : ℕ) (cs : List ℕ) (e : ℕ) → read_at uuid s at ≡ got cs e → Tail s cs e
unfolding uuid read_at
uuid_tail s at cs e f =
    let g = found_at at (uuid (drop at s)) cs e f in
    some_tail s 16 at cs e (omega (arith, uuid_lawful.ends (drop at s) cs g.0 g.1, uuid_takes (drop at s) cs g.0 g.1, length-drop at s)) f

same_tail : (s cs bs : List ℕ) (m e : ℕ) → got bs m ≡ got cs e → Tail s bs m → Tail s cs e
same_tail s cs bs m e f t = let x : bs ≡ cs = cc in let y : m ≡ e = cc in rw (← x, ← y) t

-- a reader that takes nothing more
done_back : {A : Type 0} (a b : A) (s : List ℕ) (at e : ℕ) → read_at (done a) s at ≡ got b e → got a at ≡ got b e
done_back a b s at e f = sym (done_at s at a) ∙ f

module _ (lim : TConfiguration) (s : List ℕ) where
  pub binary_tail : (at : ℕ) (cs : List ℕ) (e : ℕ) → read_at (binary lim) s at ≡ got cs e → Tail s cs e
  unfolding binary
  binary_tail at cs e f =
      let g = split number32 (λ n. provided (leb n lim.string) SIZE_LIMIT (some n)) s at cs e f in
      some_tail s g.0 g.1 cs e (ends_inside number32 number32_lawful number32_takes s at g.0 g.1 g.2) (allowed _ _ (some g.0) s g.1 cs e g.3)

  pub text_tail : (at : ℕ) (cs : List ℕ) (e : ℕ) → read_at (text lim) s at ≡ got cs e → Tail s cs e
  unfolding text
  text_tail at cs e f =
      let g = split (binary lim) (λ bs. provided (utf8 bs) BAD_UTF8 (done bs)) s at cs e f in
      same_tail s cs g.0 g.1 e (done_back g.0 cs s g.1 e (allowed _ _ (done g.0) s g.1 cs e g.3)) (binary_tail at g.0 g.1 g.2)

  named_tail : (m : TMessageType) (at : ℕ) (a : Message) (e : ℕ) → read_at (named lim m) s at ≡ got a e → Tail s a.2 e
  unfolding named
  named_tail m at a e f =
      let g = split number32 (λ n. and_then (text lim) (λ name. done (m, to_z w32 n, name))) s at a e f in
      let h = split (text lim) (λ name. done (m, to_z w32 g.0, name)) s g.1 a e g.3 in
      let k : got (m, to_z w32 g.0, h.0) h.1 ≡ got a e = done_back (m, to_z w32 g.0, h.0) a s h.1 e h.3 in
      let x : (m, to_z w32 g.0, h.0) ≡ a = cc in
      let y : h.1 ≡ e = cc in
      let z : h.0 ≡ a.2 = ap (λ (q : Message). q.2) x in
      same_tail s a.2 h.0 h.1 e (ap₂ got z y) (text_tail g.1 h.0 h.1 h.2)

  pub message_tail : (at : ℕ) (a : Message) (e : ℕ) → read_at (message lim) s at ≡ got a e → Tail s a.2 e
  unfolding message versioned
  message_tail at a e f =
      let g = split byte (λ b. provided (eqb b 0x82) BAD_VERSION (versioned lim)) s at a e f in
      let v = allowed _ _ (versioned lim) s g.1 a e g.3 in
      let h = split byte (λ b. provided (eqb (b % 32) 1) BAD_VERSION (and_then (message_typed (message_by_number (b / 32))) (named lim))) s g.1 a e v in
      let w = allowed _ _ (and_then (message_typed (message_by_number (h.0 / 32))) (named lim)) s h.1 a e h.3 in
      let k = split (message_typed (message_by_number (h.0 / 32))) (named lim) s h.1 a e w in
      named_tail k.0 k.1 a e k.3

-- the bytes between its places
pub tail_slice : (s cs : List ℕ) (e : ℕ) → Tail s cs e → slice (e - length cs) e s ≡ cs
tail_slice s cs e t =
    let n : e - length cs + length cs ≡ e = omega (arith, t.fits) in
    ap (λ (m : ℕ). slice (e - length cs) m s) (sym n) ∙ sym (take_drop (e - length cs) (length cs) s) ∙ t.is
