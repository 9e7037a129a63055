-- Messages that the same bytes spell, in types that are one, are alike at each depth.
use Rattle.std.proofs.Common.{◌≡◌, ◌<◌, ℕ, zero, suc, Bool, true, false, List, length, Option, Some, None, sym, ap, ◌∙◌, subst}
use Rattle.reflect_tables.specs.Types.{FieldType, PoolType}
use Rattle.reflect_wire.specs.Records.{Payload}
use Rattle.reflect_wire.specs.Views.{records_of}
use Rattle.reflect_wire.proofs.Spelling.{one_list}
use Rattle.reflect_pool.specs.Shapes.{is_repeated}
use Rattle.reflect_pool.specs.declared.message.MessageDescriptor.{MessageDescriptor}
use Rattle.reflect_entries.specs.Entries.{value_at}
use Rattle.reflect_message.specs.Contents.{Content, content_of, nothing}
use Rattle.reflect_message.specs.Held.{extensions_of, fields_of}
use Rattle.reflect_message.specs.Known.{holds_floats, known_extension, known_field}
use Rattle.reflect_message.specs.Names.{DynamicMessage, Value}
use Rattle.reflect_decode.specs.Levels.{TakenAt, TakesAt}
use Rattle.reflect_decode.specs.Messages.{Takes}
use Rattle.reflect_decode.specs.Spelled.{IsSpelled}
use Rattle.reflect_decode.specs.Suits.{SuitsBelow}
use Rattle.reflect_decode.specs.Taking.{Leaves}
use Rattle.reflect_decode.proofs.Ordering.{nothing_ordered}
use Rattle.reflect_decode.proofs.Suiting.{nothing_suits}
use Rattle.protobuf_model.specs.Reader.{list_of}
use Rattle.protobuf_model.proofs.Reading.{listed_back}
use Rattle.message_view.specs.Sound.{IsSound}
use Rattle.message_view.proofs.Left.{entry_at, joined_at}
use Rattle.valid_view.proofs.Behind.{LeftBehind, left_behind}
use Rattle.valid_view.proofs.Decoded.{spelled_alone}
use Rattle.print_view.proofs.Alike.{AlikeHeld, AlikeMessages, AreBare, FieldAlike, Likeness, Within, bare_alike, none_alike}
use Rattle.print_view.proofs.TwinFields.{extension_twins, field_twins, unknown_twins, unowned_twins}
use Rattle.print_view.proofs.TwinValues.{field_left}

-- ---- what is left in one type is so in another at the same place of an equal pool
module _ (takes : Takes) (new : Content) (rs : List (ℕ × Payload)) where
  -- a type at a place of a pool
  abbrev placed : ℕ × ℕ → (p : PoolType) (i : ℕ) → i < length p.messages → MessageDescriptor
  placed ptr p i within = record { pool = record { ref_ptr = ptr; now = p }; index = i; in_range = within }

  abbrev Left : MessageDescriptor → Type 0
  Left d = LeftBehind takes d nothing new rs

  abbrev LeftAt : ℕ × ℕ → PoolType → ℕ → Type 0
  LeftAt ptr p i = (within : i < length p.messages) → LeftBehind takes (placed ptr p i within) nothing new rs

  put_there : (ptr : ℕ × ℕ) (e : MessageDescriptor) → Left e → LeftAt ptr e.pool.now e.index
  put_there ptr e h within = record {
    fields = λ f owns. h.fields f owns;
    extensions = λ x owns. h.extensions x owns;
    apart = λ f owns. h.apart f owns;
    unowned = λ n none. h.unowned n none;
    unextended = λ n none. h.unextended n none;
    unknown = record { behind = λ n other. h.unknown.behind n other; declared = λ n is. h.unknown.declared n is; others = λ n none. h.unknown.others n none };
    ordered = h.ordered;
  }

  put_back : (d : MessageDescriptor) → LeftAt d.pool.ref_ptr d.pool.now d.index → Left d
  put_back d at = let h = at d.in_range in record {
    fields = λ f owns. h.fields f owns;
    extensions = λ x owns. h.extensions x owns;
    apart = λ f owns. h.apart f owns;
    unowned = λ n none. h.unowned n none;
    unextended = λ n none. h.unextended n none;
    unknown = record { behind = λ n other. h.unknown.behind n other; declared = λ n is. h.unknown.declared n is; others = λ n none. h.unknown.others n none };
    ordered = h.ordered;
  }

  moved : (d e : MessageDescriptor) → e.pool.now ≡ d.pool.now → e.index ≡ d.index → Left e → Left d
  moved d e pools places h =
      put_back d (subst (LeftAt d.pool.ref_ptr d.pool.now) places (subst (λ p. LeftAt d.pool.ref_ptr p e.index) pools (put_there d.pool.ref_ptr e h)))

module _ (pool : PoolType) (sound : IsSound pool) where
  abbrev IsTwin : ℕ → Type 0
  IsTwin levels = (grouped : Bool) (m n : DynamicMessage) (ps : List Payload) → m.descriptor.pool.now ≡ pool → n.descriptor.pool.now ≡ pool → m.descriptor.index ≡ n.descriptor.index
      → TakenAt levels grouped m.descriptor nothing (content_of m) ps → TakenAt levels grouped n.descriptor nothing (content_of n) ps → AlikeMessages pool levels m n

  -- messages of one level more
  module _ (levels : ℕ) (below : IsTwin levels) (m n : DynamicMessage) (first : m.descriptor.pool.now ≡ pool) (second : n.descriptor.pool.now ≡ pool) (index : m.descriptor.index ≡ n.descriptor.index)
      (rs : List (ℕ × Payload)) (one : LeftBehind (TakesAt levels) m.descriptor nothing (content_of m) rs) (left : LeftBehind (TakesAt levels) n.descriptor nothing (content_of n) rs) where
    abbrev A : Likeness
    A = Within pool levels

    abbrev d : MessageDescriptor
    d = m.descriptor

    its : IsSound d.pool.now
    its = subst IsSound (sym first) sound

    other : LeftBehind (TakesAt levels) m.descriptor nothing (content_of n) rs
    other = moved (TakesAt levels) (content_of n) rs m.descriptor n.descriptor (second ∙ sym first) (sym index) left

    inner : (grouped : Bool) (a b : DynamicMessage) (ps : List Payload) → a.descriptor.pool.now ≡ d.pool.now → b.descriptor.pool.now ≡ d.pool.now → a.descriptor.index ≡ b.descriptor.index
        → TakenAt levels grouped a.descriptor nothing (content_of a) ps → TakenAt levels grouped b.descriptor nothing (content_of b) ps → A.messages a b
    inner grouped a b ps there also place taken too = below grouped a b ps (there ∙ first) (also ∙ first) place taken too

    bare : (a b : DynamicMessage) → AreBare d.pool.now a b → A.messages a b
    bare a b h = bare_alike pool levels a b (record { first = h.first ∙ first; second = h.second ∙ first; index = h.index; one = h.one; other = h.other })

    leaves : (f : FieldType) → holds_floats d.pool.now f ≡ false → (is_repeated f.cardinality ≡ true → f.presence ≡ false) → (o q : Option Value) (ps : List Payload)
        → Leaves (TakesAt levels) d.pool.now f None o ps → Leaves (TakesAt levels) d.pool.now f None q ps → FieldAlike A d.pool.now f o q
    leaves f whole unset o q ps = field_left (TakesAt levels) A d.pool.now its inner (λ p rs ts a b. sym (entry_at levels p rs a) ∙ entry_at levels p ts b) f whole (none_alike A d.pool.now bare f whole) unset o q ps

    in_pool : (known : PoolType → ℕ → Option FieldType) (es gs : List (ℕ × Value)) → ((k : ℕ) (f : FieldType) → known d.pool.now k ≡ Some f → FieldAlike A d.pool.now f (value_at es k) (value_at gs k))
        → (k : ℕ) (f : FieldType) → known pool k ≡ Some f → FieldAlike A pool f (value_at es k) (value_at gs k)
    in_pool known es gs h = subst (λ p. (k : ℕ) (f : FieldType) → known p k ≡ Some f → FieldAlike A p f (value_at es k) (value_at gs k)) first h

    twins : AlikeHeld A pool m n
    twins = record {
      first = first;
      second = second;
      index = index;
      ordered = one.ordered;
      order = left.ordered;
      fields = in_pool (λ p k. known_field p m.descriptor.index k) (fields_of m) (fields_of n) (field_twins (TakesAt levels) A d leaves (λ k f is. its.lists.unset d.index k f is) (content_of m) (content_of n) rs one other);
      unowned = subst (λ p. (k : ℕ) → known_field p m.descriptor.index k ≡ None → (value_at (fields_of m) k ≡ None) × (value_at (fields_of n) k ≡ None)) first
          (unowned_twins (TakesAt levels) A d leaves (λ k f is. its.lists.unset d.index k f is) (content_of m) (content_of n) rs one other);
      extensions = in_pool (λ p k. known_extension p m.descriptor.index k) (extensions_of m) (extensions_of n) (extension_twins (TakesAt levels) A d leaves (λ k f is. its.lists.unset d.index k f is) (content_of m) (content_of n) rs one other);
      unknown = unknown_twins (TakesAt levels) A d leaves (λ k f is. its.lists.unset d.index k f is) (content_of m) (content_of n) rs one other;
    }

  -- of those that payloads leave
  below_twins : (levels : ℕ) → IsTwin levels
  unfolding TakenAt
  below_twins zero grouped m n ps first second index one also = absurd one
  below_twins (suc levels) grouped m n ps first second index (rs, inside, merges) (ts, also, more) =
      let same : ts ≡ rs = sym (joined_at grouped levels ps ts also) ∙ joined_at grouped levels ps rs inside in
      let a = (left_behind (TakesAt levels) m.descriptor nothing (content_of m) rs nothing_ordered (nothing_suits (SuitsBelow zero) m.descriptor).chosen merges).0 in
      let b = (left_behind (TakesAt levels) n.descriptor nothing (content_of n) ts nothing_ordered (nothing_suits (SuitsBelow zero) n.descriptor).chosen more).0 in
      twins levels (below_twins levels) m n first second index rs a (subst (LeftBehind (TakesAt levels) n.descriptor nothing (content_of n)) same b)

  -- of those that bytes spell
  pub spelled_twins : (bytes : List ℕ) (m n : DynamicMessage) → m.descriptor.pool.now ≡ pool → n.descriptor.pool.now ≡ pool → m.descriptor.index ≡ n.descriptor.index → IsSpelled m.descriptor bytes m → IsSpelled n.descriptor bytes n → AlikeMessages pool 101 m n
  spelled_twins bytes m n first second index one other =
      let a = spelled_alone m.descriptor bytes m one in
      let b = spelled_alone n.descriptor bytes n other in
      let same : b.0 ≡ a.0 = sym (listed_back b.0) ∙ ap list_of (one_list 100 bytes (records_of b.0) (records_of a.0) b.1 a.1) ∙ listed_back a.0 in
      twins 100 (below_twins 100) m n first second index a.0 a.2 (subst (LeftBehind (TakesAt 100) n.descriptor nothing (content_of n)) same b.2)
