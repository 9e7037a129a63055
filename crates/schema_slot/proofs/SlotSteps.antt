-- The machine value of a slot, and what is owned of one. Assumes `Logic`.
--     word p t      the machine value: the pointer and the flag
--     slot_in       what the slot's value owns beside its fields makes a slot of that value
--     slot_full, slot_empty      what the flag says of what is owned
--     loose_at      a loose value, at any pointer
use Rattle.std.proofs.Common.{◌≡◌, List, [], ◌∷◌, refl}
use mathlib.Core.Bool.{Bool, true, false, not}
use lib.Dec.{T}
use seplogic.Ra.Ura.{Ura}
use mir.Val.{Val, vbool, vstruct, vcons, vnil}
use base.Logic.{never_e}
use base.Fml.{ftrue}
use types.Logic.{Logic}
use types.Kit.{Item, Goal, Seq, Step, step, ‵, given, learn, ◌$◌, move, use1, fjoin, fpack, feq_i}
use denote.RattleType.{RattleType, Valss}
use denote.Builtin.{RawPtr, bool}
use denote.RawPtr.{Ptr, ptr_val}
use denote.Steps.{nothing}
use denote.Struct.Struct.{within}
use denote.Struct.Owning.{shape}
use Rattle.std.specs.Prelude.{Option, Some, None}
use Rattle.std.specs.Global.{Global}
use Rattle.std.specs.Box.Ownership.{box_owns}
use Rattle.std.specs.contracts.alloc.Global as heap
use Rattle.std.specs.contracts.impls.GlobalAllocator.TheImpl.{ghosts}
use Rattle.schema_slot.proofs.Values.{both}
use Rattle.schema_slot.specs.contracts.loose.Loose as loose
use Rattle.schema_slot.specs.contracts.session.Session as session
use Rattle.schema_slot.specs.declared.session.Session.{Session}
use Rattle.schema_slot.specs.Slot.{chunk, slot_owns}
use Rattle.schema_slot.specs.contracts.slot.Slot.{the_row, the_type}

abbrev Row : RattleType
Row = loose.the_row session.the_row heap.the_row ghosts

abbrev pub word : Ptr → Bool → Val
word p t = vstruct (vcons (ptr_val p) (vcons (vbool t) vnil))

module _ {M : Type 1} {𝓤 : Ura M} {𝓛 : Logic 𝓤} {K : Type 0} {Γ : List (Item 𝓤)} {G : Goal 𝓤 𝓛.H} where
  pub slot_in : K → (p : Ptr) (t : Bool) (x : Option Session)
      → Step K 𝓛 (‵ (the_row.own_val (record { at = p; full = t; value = x }) (word p t ∷ [])) ∷ Γ) G (‵ (slot_owns t p x) ∷ Γ) G
  slot_in k p t x = step (λ s.
      nothing k $ feq_i k (List Val) (vbool t ∷ []) (vbool t ∷ []) refl $ fjoin k $ feq_i k (List Val) (ptr_val p ∷ []) (ptr_val p ∷ []) refl $ fjoin k $
      feq_i k (List Val) (word p t ∷ []) (word p t ∷ []) refl $ fjoin k $
      fpack k (Valss (RawPtr ∷ bool ∷ [])) (within (shape the_type) (p, (t, tt)) (word p t ∷ [])) (ptr_val p ∷ [], (vbool t ∷ [], tt)) $ fjoin k $ s)

  -- a slot whose flag is set has a value, which is owned at the pointer
  pub slot_full : K → (t : Bool) (p : Ptr) (v : Option Session) → T t
      → ((x : Session) → v ≡ Some x → Seq K 𝓛 (‵ (box_owns chunk session.the_row p x) ∷ Γ) G) → Seq K 𝓛 (‵ (slot_owns t p v) ∷ Γ) G
  slot_full k true p (Some x) is h = h x refl
  slot_full k true p None is h = use1 𝓛 (given ⊥ (‵ ftrue)) (never_e 𝓤 _) $ learn k (λ z. absurd z)
  slot_full k false p v is h = absurd is

  -- one whose flag is not set has none
  pub slot_empty : K → (t : Bool) (p : Ptr) (v : Option Session) → T (not t) → (v ≡ None → Seq K 𝓛 (‵ ftrue ∷ Γ) G) → Seq K 𝓛 (‵ (slot_owns t p v) ∷ Γ) G
  slot_empty k true p v is h = absurd is
  slot_empty k false p (Some x) is h = use1 𝓛 (given ⊥ (‵ ftrue)) (never_e 𝓤 _) $ learn k (λ z. absurd z)
  slot_empty k false p None is h = h refl

  -- a loose value is made of its parts
  pub loose_at : K → (p : Ptr) (h : Val) (a : Global) (x : Session)
      → Step K 𝓛 (‵ (Row.own_val (record { at = p; alloc = a; value = x }) (both (ptr_val p) h ∷ [])) ∷ Γ) G (‵ (box_owns chunk session.the_row p x) ∷ ‵ (heap.the_row.own_val a (h ∷ [])) ∷ Γ) G
  loose_at k p h a x = step (λ s. let v : Val = both (ptr_val p) h in
      nothing k $ move k (2 ∷ 0 ∷ []) $ fjoin k $ feq_i k (List Val) (ptr_val p ∷ []) (ptr_val p ∷ []) refl $ fjoin k $ feq_i k (List Val) (v ∷ []) (v ∷ []) refl $ fjoin k $
      fpack k (Valss (RawPtr ∷ heap.the_row ∷ [])) (within (shape (loose.the_type session.the_row heap.the_row ghosts)) (p, (a, tt)) (v ∷ [])) (ptr_val p ∷ [], (h ∷ [], tt)) $ fjoin k $ s)
