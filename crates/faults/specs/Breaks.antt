-- Where a value first breaks, told by the relation `Spells` of well-formed values alone: at each step of the path the header is whole and the bytes that its count
-- calls for are ahead, all that stands before is well formed, and the value stepped into breaks; at its end a reader of scalars or headers refuses. Assumes
-- nothing: these are definitions.
use Rattle.std.specs.Prelude.{ℕ, suc, ◌+◌, ◌-◌, ◌*◌, ◌≤◌, ◌<◌, ◌≡◌, true, false, ◌&&◌, ◌⊎◌, List, [], ◌∷◌, ◌++◌, length, take, ℤ, pos}
use Rattle.types.specs.Refusals.{END, BAD_TYPE, DEPTH}
use Rattle.types.specs.declared.TType.{TType}
use Rattle.types.specs.declared.TType.TheVariants as T
use Rattle.types.specs.declared.TConfiguration.{TConfiguration}
use Rattle.types.specs.Value as val
use Rattle.types.specs.Value.{Tree, Trees, Pairs, Fields, size, size_p, no_fields}
use Rattle.numbers.specs.Varint.{got, refused}
use Rattle.heads.specs.Reader.{Reader, Whole}
use Rattle.heads.specs.Heads as heads
use Rattle.heads.specs.Heads.{items, pairs, least_size}
use Rattle.heads.specs.Spells.{Spells, SpellsAll, SpellsPairs, SpellsFields}
use Rattle.skip.specs.Value.{startable}
use Rattle.faults.specs.Tracked as way
use Rattle.faults.specs.Tracked.{Step}

-- the last id behind some fields
unfoldable pub last_id : Fields → ℤ → ℤ
last_id no_fields last = last
last_id (val.field id t fs) last = last_id fs id

module _ (lim : TConfiguration) (room : ℕ) (ty : TType) (bs : List ℕ) (n : ℕ) (Inner : TType → List ℕ → ℕ → Type 0) where
  -- element i of a list or set: elements begin, and the i before it are well formed
  pub record InElement (i : ℕ) : Type 0 where
    pub kind : TType
    pub count : ℕ
    pub before : Trees
    pub head : List ℕ
    pub body : List ℕ
    pub rest : List ℕ
    pub more : ℕ
    pub box : (ty ≡ T.List) ⊎ (ty ≡ T.Set)
    pub entered : 0 < room
    pub header : Whole (items lim) (kind, count) head
    pub backed : count * least_size kind ≤ length (body ++ rest)
    pub begun : startable kind count ≡ true
    pub number : size before ≡ i
    pub among : i < count
    pub spelt : SpellsAll before lim (room - 1) kind body
    pub bytes : bs ≡ head ++ (body ++ rest)
    pub reached : n ≡ length head + (length body + more)
    pub inner : Inner kind rest more

  -- a field's value: the fields before it, with a stop behind them, are well formed
  pub record InField (id : ℤ) : Type 0 where
    pub kind : TType
    pub before : Fields
    pub body : List ℕ
    pub head : List ℕ
    pub rest : List ℕ
    pub more : ℕ
    pub box : ty ≡ T.Struct
    pub entered : 0 < room
    pub spelt : SpellsFields before lim (room - 1) (pos 0) (body ++ 0 ∷ [])
    pub header : Whole (heads.field (last_id before (pos 0))) (heads.value kind id) head
    pub bytes : bs ≡ body ++ (head ++ rest)
    pub reached : n ≡ length body + (length head + more)
    pub inner : Inner kind rest more

  -- key i of a map: the i pairs before it are well formed
  pub record InKey (i : ℕ) : Type 0 where
    pub key : TType
    pub value : TType
    pub count : ℕ
    pub before : Pairs
    pub head : List ℕ
    pub body : List ℕ
    pub rest : List ℕ
    pub more : ℕ
    pub box : ty ≡ T.Map
    pub entered : 0 < room
    pub header : Whole (pairs lim) (key, value, count) head
    pub backed : count * least_size key + count * least_size value ≤ length (body ++ rest)
    pub begun : startable key count && startable value count ≡ true
    pub number : size_p before ≡ i
    pub among : i < count
    pub spelt : SpellsPairs before lim (room - 1) key value body
    pub bytes : bs ≡ head ++ (body ++ rest)
    pub reached : n ≡ length head + (length body + more)
    pub inner : Inner key rest more

  -- value i: and its key too
  pub record InValue (i : ℕ) : Type 0 where
    pub key : TType
    pub value : TType
    pub count : ℕ
    pub before : Pairs
    pub own : Tree
    pub head : List ℕ
    pub body : List ℕ
    pub mark : List ℕ
    pub rest : List ℕ
    pub more : ℕ
    pub box : ty ≡ T.Map
    pub entered : 0 < room
    pub header : Whole (pairs lim) (key, value, count) head
    pub backed : count * least_size key + count * least_size value ≤ length (body ++ (mark ++ rest))
    pub begun : startable key count && startable value count ≡ true
    pub number : size_p before ≡ i
    pub among : i < count
    pub spelt : SpellsPairs before lim (room - 1) key value body
    pub keyed : Spells own lim (room - 1) key mark
    pub bytes : bs ≡ head ++ (body ++ (mark ++ rest))
    pub reached : n ≡ length head + (length body + (length mark + more))
    pub inner : Inner value rest more

-- a reader refuses these bytes, the n first of which are the ones that it read: to fewer it says END and nothing else; and where it is not for want of bytes, it
-- says the same to whatever is no shorter and begins with them
pub record Stops {A : Type 0} (q : Reader A) (bs : List ℕ) (why n : ℕ) : Type 0 where
  pub refuses : q bs ≡ refused why
  pub within : n ≤ suc (length bs)
  pub fewer : (j : ℕ) → j < n → q (take j bs) ≡ refused END
  pub same : (why ≡ END → ⊥) → (cs : List ℕ) → length bs ≤ length cs → take n cs ≡ take n bs → q cs ≡ refused why

-- "checked before its first byte": no room
abbrev pub NoRoom : ℕ → ℕ → ℕ → Type 0
NoRoom room why n = (room ≡ 0) × (why ≡ DEPTH) × (n ≡ 0)

-- the header is refused, or its elements "never begin"
abbrev pub ItemsEnd : TConfiguration → ℕ → List ℕ → ℕ → ℕ → Type 0
ItemsEnd lim room bs why n =
    (0 < room) × (Stops (heads.items_head lim) bs why n ⊎ ((t : TType) × (k : ℕ) × (heads.items_head lim bs ≡ got (t, k) n) × (startable t k ≡ false) × (why ≡ BAD_TYPE)))

abbrev pub PairsEnd : TConfiguration → ℕ → List ℕ → ℕ → ℕ → Type 0
PairsEnd lim room bs why n =
    (0 < room)
    × (Stops (heads.pairs_head lim) bs why n
    ⊎ ((t : TType) × (u : TType) × (k : ℕ) × (heads.pairs_head lim bs ≡ got (t, u, k) n) × (startable t k && startable u k ≡ false) × (why ≡ BAD_TYPE)))

-- the header of a field is refused: the fields before it, with a stop behind them, are well formed
pub record FieldsEnd (lim : TConfiguration) (room : ℕ) (last : ℤ) (bs : List ℕ) (why n : ℕ) : Type 0 where
  pub before : Fields
  pub body : List ℕ
  pub rest : List ℕ
  pub more : ℕ
  pub spelt : SpellsFields before lim room last (body ++ 0 ∷ [])
  pub header : Stops (heads.field (last_id before last)) rest why more
  pub bytes : bs ≡ body ++ rest
  pub reached : n ≡ length body + more

-- the end of the path: the value's own header or its own bytes are refused, by the readers of scalars and headers
unfoldable pub End : TConfiguration → ℕ → TType → List ℕ → ℕ → ℕ → Type 0
End lim room T.Stop bs why n = (why ≡ BAD_TYPE) × (n ≡ 0)
End lim room T.Bool bs why n = Stops heads.truth bs why n
End lim room T.I08 bs why n = Stops heads.int8 bs why n
End lim room T.I16 bs why n = Stops heads.int16 bs why n
End lim room T.I32 bs why n = Stops heads.int32 bs why n
End lim room T.I64 bs why n = Stops heads.int64 bs why n
End lim room T.Double bs why n = Stops heads.double bs why n
End lim room T.String bs why n = Stops (heads.binary lim) bs why n
End lim room T.List bs why n = NoRoom room why n ⊎ ItemsEnd lim room bs why n
End lim room T.Set bs why n = NoRoom room why n ⊎ ItemsEnd lim room bs why n
End lim room T.Map bs why n = NoRoom room why n ⊎ PairsEnd lim room bs why n
End lim room T.Struct bs why n = NoRoom room why n ⊎ ((0 < room) × FieldsEnd lim (room - 1) (pos 0) bs why n)
End lim room T.Uuid bs why n = Stops heads.uuid bs why n

unfoldable pub Breaks : List Step → TConfiguration → ℕ → TType → List ℕ → ℕ → ℕ → Type 0
Breaks [] lim room ty bs why n = End lim room ty bs why n
Breaks (way.field id ∷ path) lim room ty bs why n = InField lim room ty bs n (λ t cs m. Breaks path lim (room - 1) t cs why m) id
Breaks (way.element i ∷ path) lim room ty bs why n = InElement lim room ty bs n (λ t cs m. Breaks path lim (room - 1) t cs why m) i
Breaks (way.key i ∷ path) lim room ty bs why n = InKey lim room ty bs n (λ t cs m. Breaks path lim (room - 1) t cs why m) i
Breaks (way.value i ∷ path) lim room ty bs why n = InValue lim room ty bs n (λ t cs m. Breaks path lim (room - 1) t cs why m) i
