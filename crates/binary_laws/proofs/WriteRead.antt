-- Written and read is the same: a value within the limits, written by the binary writer's calls into a buffer that has room for it, is read there by the binary
-- protocol's words as the same value, to the bit, the types of empty maps excepted, and it ends where the writer stands. Assumes nothing.
use mathlib.Core.Path.{◌≡◌, refl, ap, ◌∙◌}
use mathlib.Core.List.{List, ◌++◌, append_assoc}
use Prim.Native.Nat.{ℕ, ◌+◌, ◌-◌, ◌≤◌}
use native.Mathlib.Omega.{arith}
use lib.ListN.{length, drop, length-append}
use lib.Seq.{drop_at, drop-drop}
use Rattle.types.specs.declared.TMessageType.{TMessageType}
use Rattle.types.specs.declared.SeqNo.{SeqNo}
use Rattle.types.specs.declared.TConfiguration.{TConfiguration}
use Rattle.types.specs.Value as val
use Rattle.types.specs.Value.{Tree, Fields, type_of, Within}
use Rattle.types.proofs.Limits.{Ranged}
use Rattle.numbers.specs.Varint.{got, placed}
use Rattle.numbers.specs.Answers.{put_at}
use Rattle.numbers.proofs.Put.{put_drop}
use Rattle.heads.specs.Reader.{read_at}
use Rattle.laws.specs.Written.{readable, HeaderWithin}
use Rattle.laws.specs.Text.{Plan, Texts}
use Rattle.protocols.specs.Value.{value_by}
use Rattle.binary_puts.specs.Bytes.{message_bytes}
use Rattle.binary_heads.specs.Heads.{message}
use Rattle.binary_heads.specs.Words.{binary}
use Rattle.binary_output.specs.State.{State, cut_of, begun_here}
use Rattle.binary_output.proofs.Checks.{Sound}
use Rattle.binary_laws.specs.Written.{bytes_of, bytes_of_whole}
use Rattle.binary_laws.specs.Writing.{Ran, ran, run, write_of, write_whole}
use Rattle.binary_laws.proofs.Back.{message_reads}
use Rattle.binary_laws.proofs.RoundTrip.{reads_back, put_back}
use Rattle.binary_laws.proofs.Writing.{Runs, on, Ready, wrote, wrote_whole}

-- a value: the calls went through, and what they left is read as it
pub record Back (lim : TConfiguration) (room : ℕ) (t : Tree) (st : State) (x : Ran) : Type 0 where
  pub left : List ℕ
  pub next : State
  pub went : x ≡ ran left next
  pub same : read_at (value_by binary lim room (type_of t)) left st.place.0 ≡ got (readable t) next.place.0

-- a whole message: its header, and behind it its struct
pub record Mail (lim : TConfiguration) (room : ℕ) (m : TMessageType) (z : SeqNo) (name : List ℕ) (fs : Fields) (st : State) (x : Ran) : Type 0 where
  pub left : List ℕ
  pub next : State
  pub body : ℕ
  pub went : x ≡ ran left next
  pub heading : read_at (message lim) left st.place.0 ≡ got (m, z.0, name) body
  pub same : read_at (value_by binary lim room (type_of (val.struct fs))) left body ≡ got (readable (val.struct fs)) next.place.0

module _ (lim : TConfiguration) (ok : Ranged lim) (plan : Plan) (depth : ℕ) (st : State) (r : Ready lim depth st) (buf : List ℕ) (s : Sound (length buf) st) where
  pub value_back : (t : Tree) → Within lim depth t → Texts plan t → st.place.0 + length (bytes_of t) ≤ length buf → st.place.0 + length (bytes_of t) ≤ cut_of st → Back lim (lim.depth - depth) t st (run (write_of plan t) buf st)
  unfolding Runs
  value_back t w x room cut =
      record {
        left = put_at buf st.place.0 (bytes_of t);
        next = on st (length (bytes_of t));
        went = wrote lim plan t depth st r w.nested w.sized w.typed x buf s room cut;
        same = put_back lim ok depth t w buf st.place.0 room;
      }

  pub message_back : (m : TMessageType) (z : SeqNo) (name : List ℕ) (fs : Fields) → HeaderWithin lim z name → Within lim depth (val.struct fs) → Texts plan (val.struct fs) → st.place.0 + length (bytes_of_whole m z name fs) ≤ length buf → length (bytes_of_whole m z name fs) ≤ lim.message → Mail lim (lim.depth - depth) m z name fs st (run (write_whole plan m z name fs) buf st)
  unfolding Runs read_at bytes_of_whole
  message_back m z name fs h w x room cut =
      let at : ℕ = st.place.0 in
      let hs : List ℕ = message_bytes m z.0 name in
      let bs : List ℕ = bytes_of (val.struct fs) in
      let rest : List ℕ = drop (at + length (hs ++ bs)) buf in
      let left : List ℕ = put_at buf at (hs ++ bs) in
      let there : drop at left ≡ hs ++ (bs ++ rest) = put_drop buf at (hs ++ bs) room ∙ append_assoc hs bs rest in
      let behind : drop (at + length hs) left ≡ bs ++ rest = (rw drop-drop at (ap (drop (length hs)) there)) ∙ drop_at hs (bs ++ rest) (length hs) refl in
      let ends : at + length hs + length bs ≡ at + length (hs ++ bs) = omega (arith, length-append hs bs) in
      record {
        left = left;
        next = on (begun_here st) (length (hs ++ bs));
        body = at + length hs;
        went = wrote_whole lim plan m z name fs depth st r h w x buf s room (omega (arith, ap (λ (l : TConfiguration). l.message) r.lims));
        heading = ap (λ (l : List ℕ). placed at (message lim l)) there ∙ ap (placed at) (message_reads lim m z.0 name h.number h.short ok h.text (bs ++ rest));
        same = reads_back lim ok depth (val.struct fs) w left (at + length hs) rest behind ∙ ap (got (readable (val.struct fs))) ends;
      }
