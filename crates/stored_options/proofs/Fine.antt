-- Messages of options as they are settled: in shape and exclusive at each depth, of their types,
-- which know all of them. So are those that texts make.
use Rattle.std.proofs.Common.{◌≡◌, ◌≤◌, ℕ, suc, Option, None, true, refl, sym, ap, ◌∙◌, subst, arith}
use Rattle.texts_view.proofs.Given.{given_known}
use Rattle.known_messages.specs.KnownMessages.{KnowsAll, KnowsHeld}
use Rattle.message_view.specs.Shaped.{Exclusive}
use Rattle.message_view.specs.Sound.{IsSound}
use Rattle.message_view.specs.Types.{name_at, types_of}
use Rattle.message_view.specs.Views.{view}
use Rattle.message_view.proofs.Changed.{nothing_shaped}
use Rattle.protobuf_model.specs.Typed.{IsTyped}
use Rattle.protobuf_model.specs.Types.{Name}
use Rattle.protobuf_model.specs.Values.{Message}
use Rattle.protox_lex.specs.Class.{Text}
use Rattle.reflect_format.specs.Filled.{Fills, Makes}
use Rattle.reflect_message.specs.Contents.{content_of, nothing}
use Rattle.reflect_message.specs.Names.{DynamicMessage}
use Rattle.reflect_pool.specs.declared.message.MessageDescriptor.{MessageDescriptor}
use Rattle.text_laws.proofs.Suited.{given_suits}
use Rattle.text_model.specs.Schemas.{Schema}
use Rattle.text_model.specs.Texts.{Gives, IsText}
use Rattle.text_model.specs.Tree.{Fields, no_fields, more_fields}
use Rattle.text_view.specs.Holds.{HoldsKinds}
use Rattle.text_view.specs.Schemas.{schema_of}
use Rattle.text_view.proofs.Bodies.{filled_shape}
use Rattle.text_view.proofs.Filling.{stays_so}
use Rattle.text_view.proofs.Kept.{blank_exclusive, blank_kinds}
use Rattle.text_view.proofs.Made.{made_given}
use Rattle.text_view.proofs.SoundTypes.{sound_types}
use Rattle.set_view.proofs.Viewed.{empty_suits, empty_view}
use Rattle.stored_options.proofs.Levels.{typed_deeper}

-- of at most so many levels below the message
pub record IsFine (levels : ℕ) (m : DynamicMessage) : Type 0 where
  pub shape : Exclusive (suc levels) m
  pub typed : IsTyped (suc levels) (types_of m.descriptor.pool.now) (name_at m.descriptor.pool.now m.descriptor.index) (view m)
  pub known : KnowsAll (types_of m.descriptor.pool.now) (name_at m.descriptor.pool.now m.descriptor.index) (view m)

-- one in which nothing is set
pub empty_fine : (levels : ℕ) (m : DynamicMessage) → content_of m ≡ nothing → IsFine levels m
empty_fine levels m empty = record {
  shape = nothing_shaped true levels m empty;
  typed = empty_suits (suc levels) (types_of m.descriptor.pool.now) (name_at m.descriptor.pool.now m.descriptor.index) m empty;
  known = λ n.
      subst (KnowsHeld (types_of m.descriptor.pool.now) (types_of m.descriptor.pool.now (name_at m.descriptor.pool.now m.descriptor.index) n)) (sym (empty_view m empty n)) refl;
}

-- ---- what texts make

fills_type : (fs : Fields) (old new : DynamicMessage) → Fills fs old new → new.descriptor ≡ old.descriptor
fills_type no_fields old new e = ap (λ (m : DynamicMessage). m.descriptor) e
fills_type (more_fields name g s fs) old new h = fills_type fs h.0 new h.3 ∙ h.1

module _ (d : MessageDescriptor) (sound : IsSound d.pool.now) (z : Text) (fs : Fields) (text : IsText z fs) (m : DynamicMessage) (makes : Makes d (Fills fs) m) where
  its_sound : IsSound makes.0.descriptor.pool.now
  its_sound = subst (λ (c : MessageDescriptor). IsSound c.pool.now) (sym makes.1) sound

  pub made_type : m.descriptor ≡ d
  made_type = fills_type fs makes.0 m makes.3 ∙ makes.1

  pub made_kinds : HoldsKinds m
  made_kinds = (stays_so makes.0 m its_sound (blank_exclusive makes.0 makes.2) (blank_kinds makes.0 makes.2) fs makes.3).1

  none_decoded : Name → Text → Option Message
  none_decoded t x = None

  abbrev schema : Schema
  schema = schema_of d.pool.now none_decoded

  gives : Gives schema (name_at d.pool.now d.index) z (view m)
  gives = (made_given d sound none_decoded z fs text m makes).0

  known : KnowsAll (types_of d.pool.now) (name_at d.pool.now d.index) (view m)
  known = given_known schema (λ t n f key has label. ((sound_types d.pool.now sound none_decoded).entries t n f key has label).1) (name_at d.pool.now d.index) z (view m) gives

  pub made_shape : (levels : ℕ) → 100 ≤ levels → Exclusive (suc levels) m
  made_shape levels le = filled_shape true makes.0 m its_sound fs levels (omega (arith, le, text.shallow)) (nothing_shaped true levels makes.0 makes.2) makes.3

  pub made_fine : (levels : ℕ) → 100 ≤ levels → IsFine levels m
  made_fine levels le = record {
    shape = made_shape levels le;
    typed = subst (λ (c : MessageDescriptor). IsTyped (suc levels) (types_of c.pool.now) (name_at c.pool.now c.index) (view m)) (sym made_type)
        (typed_deeper (types_of d.pool.now) 100 (suc levels) (omega (arith, le)) (name_at d.pool.now d.index) (view m)
        (given_suits schema (sound_types d.pool.now sound none_decoded) (name_at d.pool.now d.index) z (view m) gives) known);
    known = subst (λ (c : MessageDescriptor). KnowsAll (types_of c.pool.now) (name_at c.pool.now c.index) (view m)) (sym made_type) known;
  }
