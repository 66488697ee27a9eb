-- A picker's call that is answered: what it passed and what it read; that the bytes behind have no say; and that each of the struct's own fields is the
-- tree's, with its value at the place that is told. Assumes nothing.
use mathlib.Core.Path.{◌≡◌, refl, sym, ap, subst, ◌∙◌}
use mathlib.Core.Bool.{Bool, true, false}
use mathlib.Core.Logic.{◌⊎◌, inl, inr}
use mathlib.Core.List.{List, [], ◌∷◌}
use Prim.Native.Nat.{ℕ, suc, ◌+◌, ◌-◌, ◌*◌, ◌≤◌, ◌<◌}
use native.Mathlib.Omega.{arith}
use borrow.Author.Tests.{lt-ltb, ltb-true, le-leb, leb-true}
use lib.Dec.{leb, ltb}
use lib.IntN.{ℤ, pos}
use lib.ListN.{length, take, drop, length-drop}
use Rattle.types.specs.declared.TType.{TType}
use Rattle.types.specs.declared.TType.TheVariants as T
use Rattle.types.specs.declared.TConfiguration.{TConfiguration}
use Rattle.types.specs.Value as val
use Rattle.types.specs.Value.{Tree, type_of}
use Rattle.numbers.specs.Varint.{Found, got, refused, placed}
use Rattle.numbers.proofs.Found.{as_long, same_part}
use Rattle.heads.specs.Reader.{Reader, done, read_at, read_to}
use Rattle.heads.proofs.Ahead.{lawful_fair}
use Rattle.heads.proofs.Cut.{was_cut, cut_whole, whole_cut}
use Rattle.heads.specs.Heads.{Field, stop, bool, value, field}
use Rattle.heads.specs.Answers.{place}
use Rattle.heads.specs.Spells.{Formed}
use Rattle.heads.proofs.Lawful.{Lawful, same}
use Rattle.heads.proofs.Steps.{found_at, step, done_at}
use Rattle.input.specs.State.{State, cut_of, sound, waits, gate, moved_to}
use Rattle.input.specs.Outcome.{Said, says, refuses, Outcome, answers, from, stays}
use Rattle.input.specs.Answers.{as_done}
use Rattle.input.specs.declared.DoneAnswer.TheVariants as N
use Rattle.input.proofs.Gate.{is_sound, sound_is, Gated, bad, turn, through, gated}
use Rattle.skip.specs.Walk.{Entry, fields}
use Rattle.skip.specs.Value.{fields_of, value_of}
use Rattle.skip.specs.Skip.{room_of}
use Rattle.skip.proofs.Lawfuls.{fields_lawful, value_lawful}
use Rattle.skip.proofs.Theorems.{was_spelt}
use Rattle.wanted.specs.Wanted.{listed}
use Rattle.picker.specs.Pick.{Own, owned, own_from, on_struct, picks, forgets, pick_call, written, picked_rows}
use Rattle.picker.proofs.Walk.{entry, read_type, sized_at_lem, headless, none_left, Behind, bool_next, value_next, valueless}

-- the struct's own fields, from the reader's place
abbrev pub own : State → Reader (List (Entry Tree))
own st = fields val.truth (value_of st.limits (room_of st - 1)) (pos 0)

pub own_lawful : (st : State) → Lawful (own st)
own_lawful st = fields_lawful val.truth (value_of st.limits (room_of st - 1)) (value_lawful st.limits (room_of st - 1)) (pos 0)

not_said : {A X : Type 0} {a : A} {why : ℕ} → refuses why ≡ says a → X
not_said e = let z : ◌≡◌ {A = ℕ} 0 1 = cc in absurd (omega arith)

module _ (ids : List ℤ) (kinds : List ℕ) (n : ℕ) (st : State) where
  pub record Went (s : List ℕ) (fs : List (Entry Tree)) (e : ℕ) : Type 0 where
    pub sounds : sound (length s) st ≡ true
    pub free : waits st.pending.0 ≡ false
    pub fine : listed ids kinds ≡ true
    pub deep : st.depth < st.limits.depth
    pub fits : 3 * length ids ≤ n
    pub reads : read_at (own st) s st.place.0 ≡ got fs e
    pub before : e ≤ cut_of st

  module _ (s : List ℕ) where
    gate_free : sound (length s) st ≡ true → waits st.pending.0 ≡ false → gate (length s) st ≡ 0
    unfolding gate
    gate_free f w = rw (f, w)

    pub went_is : (fs : List (Entry Tree)) (e : ℕ) → Went s fs e → picks ids kinds n s st ≡ answers fs (moved_to st (place e))
    unfolding picks on_struct
    went_is fs e w =
        rw (gate_free w.sounds w.free, w.fine, lt-ltb st.depth st.limits.depth w.deep, le-leb (3 * length ids) n w.fits) (ap (from stays st) (whole_cut (own st) s (cut_of st) st.place.0 fs e (own_lawful st) w.before w.reads))

    pub went : (fs : List (Entry Tree)) → (picks ids kinds n s st).said ≡ says fs → (e : ℕ) × Went s fs e
    unfolding picks on_struct
    went fs h = go (gated (length s) st) (listed ids kinds) refl (ltb st.depth st.limits.depth) refl (leb (3 * length ids) n) refl
      where
        stood : sound (length s) st ≡ true → waits st.pending.0 ≡ false → listed ids kinds ≡ true → st.depth < st.limits.depth → 3 * length ids ≤ n → (x : Found (List (Entry Tree))) → read_to (own st) s (cut_of st) st.place.0 ≡ x → (from stays st x).said ≡ says fs → (e : ℕ) × Went s fs e
        stood f w l d r (got gs e) q y =
            let z : gs ≡ fs = cc in
            let o = is_sound (length s) st f in
            let l' = lawful_fair (own st) (own_lawful st) in
            let k = was_cut (own st) s (cut_of st) st.place.0 gs e l' o.before o.here q in
            (e, record { sounds = f; free = w; fine = l; deep = d; fits = r; reads = cut_whole (own st) s (cut_of st) st.place.0 gs e l' k ∙ ap (λ (x : List (Entry Tree)). got x e) z; before = k.before })
        stood f w l d r (refused why) q y = not_said y

        go : Gated (length s) st → (a : Bool) → listed ids kinds ≡ a → (b : Bool) → ltb st.depth st.limits.depth ≡ b → (c : Bool) → leb (3 * length ids) n ≡ c → (e : ℕ) × Went s fs e
        go (bad f g) a l b d c r = not_said (rw g at h)
        go (turn f w g) a l b d c r = not_said (rw g at h)
        go (through f w g) false l b d c r = not_said (rw (g, l) at h)
        go (through f w g) true l false d c r = not_said (rw (g, l, d) at h)
        go (through f w g) true l true d false r = not_said (rw (g, l, d, r) at h)
        go (through f w g) true l true d true r = stood f w l (ltb-true _ _ d) (leb-true _ _ r) (read_to (own st) s (cut_of st) st.place.0) refl (rw (g, l, d, r) at h)

  -- where it ended
  pub went_inside : (s : List ℕ) (fs : List (Entry Tree)) (e : ℕ) → Went s fs e → (st.place.0 ≤ e) × (e ≤ length s)
  unfolding read_at
  went_inside s fs e w =
      let g = found_at st.place.0 (own st (drop st.place.0 s)) fs e w.reads in
      let i = (own_lawful st).ends (drop st.place.0 s) fs g.0 g.1 in
      let h = (is_sound (length s) st w.sounds).here in
      (omega (arith, g.2), omega (arith, g.2, length-drop st.place.0 s))

  -- the bytes behind have no say
  pub went_behind : (s t : List ℕ) (fs : List (Entry Tree)) (e : ℕ) → Went s fs e → take e t ≡ take e s → Went t fs e
  unfolding read_at
  went_behind s t fs e w q =
      let at = st.place.0 in
      let i = went_inside s fs e w in
      let g = found_at at (own st (drop at s)) fs e w.reads in
      let k = is_sound (length s) st w.sounds in
      let long : e ≤ length t = as_long e s t i.1 q in
      let again : own st (drop at t) ≡ got fs g.0 = same (own st) (own_lawful st) (drop at s) (drop at t) fs g.0 g.1 (same_part at g.0 e s t g.2 q) in
      record {
        sounds = sound_is (length t) st (record { limits = k.limits; here = omega (arith, i.0); deep = k.deep; after = k.after; before = k.before });
        free = w.free;
        fine = w.fine;
        deep = w.deep;
        fits = w.fits;
        reads = ap (placed at) again ∙ ap (got fs) g.2;
        before = w.before;
      }

module _ (ids : List ℤ) (kinds : List ℕ) (st : State) (rows : List ℕ) (s t : List ℕ) where
  -- the call and its rows are told by the bytes up to the struct's end
  pub record Same : Type 0 where
    pub answer : pick_call ids kinds (length rows) t st ≡ pick_call ids kinds (length rows) s st
    pub noted : picked_rows ids kinds t st rows ≡ picked_rows ids kinds s st rows

  -- "two inputs that agree up to its end give .. picker .. the same answer"
  pub pick_behind : (pick_call ids kinds (length rows) s st).answer ≡ N.Done → take (pick_call ids kinds (length rows) s st).state.place.0 t ≡ take (pick_call ids kinds (length rows) s st).state.place.0 s → Same
  unfolding pick_call picked_rows
  pick_behind z q = go (picks ids kinds (length rows) s st).said refl
    where
      go : (x : Said (List (Entry Tree))) → (picks ids kinds (length rows) s st).said ≡ x → Same
      go (says fs) y =
          let w = went ids kinds (length rows) st s fs y in
          let is = went_is ids kinds (length rows) st s fs w.0 w.1 in
          let at : (picks ids kinds (length rows) s st).state.place.0 ≡ w.0 = ap (λ (o : Outcome (List (Entry Tree))). o.state.place.0) is in
          let js = went_is ids kinds (length rows) st t fs w.0 (went_behind ids kinds (length rows) st s t fs w.0 w.1 (rw at at q)) in
          record {
            answer = ap (λ (o : Outcome (List (Entry Tree))). as_done (forgets o)) (js ∙ sym is);
            noted = ap (λ (o : Outcome (List (Entry Tree))). written ids kinds st.place.0 o.said rows) (js ∙ sym is);
          }
      go (refuses why) y = let a : N.Refused why ≡ N.Done = rw y at z in let o : ◌≡◌ {A = ℕ} 0 1 = cc in absurd (omega arith)

-- The fields that a walk found are the tree's.
module _ (ids : List ℤ) (kinds : List ℕ) (n : ℕ) (st : State) (s : List ℕ) (fs : List (Entry Tree)) (e : ℕ) (w : Went ids kinds n st s fs e) where
  pub went_read : read_at (value_of st.limits (room_of st) T.Struct) s st.place.0 ≡ got (val.struct (fields_of fs)) e
  unfolding value_of
  went_read =
      let r : room_of st ≡ suc (room_of st - 1) = omega (arith, w.deep) in
      ap (λ (m : ℕ). read_at (value_of st.limits m T.Struct) s st.place.0) r
      ∙ step (own st) (λ gs. done (val.struct (fields_of gs))) s st.place.0 fs e w.reads
      ∙ done_at s e (val.struct (fields_of fs))

  -- the struct is well formed, and its tree has these fields
  pub went_formed : Formed s st.limits (room_of st) T.Struct st.place.0 e
  went_formed =
      let x = was_spelt s st.limits (room_of st) T.Struct st.place.0 e (val.struct (fields_of fs)) went_read in
      record { tree = val.struct (fields_of fs); start = omega (arith, x.later); inside = x.inside; spelt = x.spelt }

-- Each value stands at the place that is told: a bool in its field's header, any other in the bytes from the start to the end.
module _ (lim : TConfiguration) (room : ℕ) (s : List ℕ) where
  abbrev pub Stands : Own → Type 0
  Stands o = ((b : Bool) × (o.what ≡ val.truth b)) ⊎ (read_at (value_of lim room (type_of o.what)) s o.start ≡ got o.what o.end)

  unfoldable pub AllStand : List Own → Type 0
  AllStand [] = Unit {0}
  AllStand (o ∷ os) = Stands o × AllStand os

  module _ (x : Entry Tree) (rest : List (Entry Tree)) (last : ℤ) (p e : ℕ) (f : read_at (fields val.truth (value_of lim room) last) s p ≡ got (x ∷ rest) e) (later : (id : ℤ) (q : ℕ) → read_at (fields val.truth (value_of lim room) id) s q ≡ got rest e → AllStand (own_from q rest)) where
    -- behind a field as the walk found it
    behind_it : (y : Entry Tree) (id : ℤ) (q : ℕ) → p + y.head + y.size ≡ q → Behind lim room s last p y id q (x ∷ rest) e → Stands (owned p y) → AllStand (own_from p (x ∷ rest))
    unfolding AllStand own_from
    behind_it y id q pl b st =
        let xy : x ≡ y = cc b.whole in
        let rr : rest ≡ b.rest = cc b.whole in
        (subst (λ (z : Entry Tree). Stands (owned p z)) (sym xy) st, subst (λ (m : ℕ). AllStand (own_from m rest)) (sym pl ∙ ap (λ (z : Entry Tree). p + z.head + z.size) (sym xy)) (later id q (b.reads ∙ ap (λ (l : List (Entry Tree)). got l e) (sym rr))))

    with_value : (t : TType) (id : ℤ) (m : ℕ) → read_at (field last) s p ≡ got (value t id) m → (y : Found Tree) → read_at (value_of lim room t) s m ≡ y → AllStand (own_from p (x ∷ rest))
    with_value t id m h (refused why) g = valueless lim room s last p t id m h (x ∷ rest) e f why g
    with_value t id m h (got v q) g =
        let lo = (sized_at_lem (field last) s p (value t id) m h).1 in
        let hi = (sized_at_lem (value_of lim room t) s m v q g).1 in
        let am : p + (m - p) ≡ m = omega arith in
        let aq : p + (m - p) + (q - m) ≡ q = omega arith in
        let mq : m + (q - m) ≡ q = omega arith in
        let ty = read_type s lim room t m q v g in
        let r : read_at (value_of lim room (type_of v)) s (p + (m - p)) ≡ got v (p + (m - p) + (q - m)) = rw (ty, am, mq) g in
        behind_it (entry id v p m q) id q aq (value_next lim room s last p t id m h (x ∷ rest) e f v q g) (inr r)

    by_head : (y : Found Field) → read_at (field last) s p ≡ y → AllStand (own_from p (x ∷ rest))
    by_head (refused why) h = headless lim room s last p why (x ∷ rest) e h f
    by_head (got stop m) h = let z : x ∷ rest ≡ [] = none_left lim room s last p m (x ∷ rest) e h f in let o : ◌≡◌ {A = ℕ} 0 1 = cc in absurd (omega arith)
    by_head (got (bool b id) m) h =
        let lo = (sized_at_lem (field last) s p (bool b id) m h).1 in
        behind_it _ id m (omega arith) (bool_next lim room s last p b id m (x ∷ rest) e h f) (inl (b, refl))
    by_head (got (value t id) m) h = with_value t id m h (read_at (value_of lim room t) s m) refl

  pub all_stand : (fs : List (Entry Tree)) (last : ℤ) (p e : ℕ) → read_at (fields val.truth (value_of lim room) last) s p ≡ got fs e → AllStand (own_from p fs)
  unfolding AllStand own_from
  all_stand [] last p e f = tt
  all_stand (x ∷ rest) last p e f = by_head x rest last p e f (λ id q g. all_stand rest id q e g) (read_at (field last) s p) refl
