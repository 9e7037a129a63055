-- What is put, or unset, in a message in which all that is of bytes is bytes leaves it so.
use Rattle.std.proofs.Common.{◌≡◌, ◌≢◌, ◌⊎◌, inl, inr, ℕ, Bool, true, false, cond, Option, Some, refl, ap, ◌∙◌, subst}
use Rattle.std.proofs.lemmas.Bool.Decides.{eqb_tells}
use Rattle.protobuf_model.specs.Types.{Field, rival}
use Rattle.protobuf_model.specs.Values.{Content, Held, Message, Single, absent, content, message}
use Rattle.reflect_tables.specs.Types.{FieldType, PoolType}
use Rattle.reflect_message.specs.Contents.{content_of, nothing}
use Rattle.reflect_message.specs.Names.{DynamicMessage}
use Rattle.message_view.specs.Views.{held_in, is_set, view}
use Rattle.set_view.specs.Puts.{IsPut, IsUnset}
use Rattle.text_model.specs.Plain.{AreBytes}
use Rattle.text_view.proofs.Kept.{blank_view}
use Rattle.print_view.specs.InBytes.{HoldsBytes, StandsIn, StandsInHeld}

pub empty_bytes : (m : DynamicMessage) → content_of m ≡ nothing → HoldsBytes (view m)
empty_bytes m empty v s = absurd (subst (λ n. StandsIn v (message n)) (blank_view m empty) s).1

pub put_bytes : (type : ℕ → Option Field) (n : ℕ) (held : Held) (old new : Message) → IsPut type n held old new → HoldsBytes old
    → ((v : Single) → StandsInHeld v held → AreBytes v) → HoldsBytes new
put_bytes type n held old new put before small v s = by (eqb_tells s.0 n) where
  apart : s.0 ≢ n → (b : Bool) → rival type n s.0 ≡ b → AreBytes v
  apart other true is = absurd (subst (StandsInHeld v) (put.rivals s.0 is) s.1)
  apart other false is = before v (s.0, subst (StandsInHeld v) (put.others s.0 other is) s.1)

  by : {A B : Type 0} → (A × (s.0 ≡ n)) ⊎ (B × (s.0 ≢ n)) → AreBytes v
  by (inl (_, same)) = small v (subst (StandsInHeld v) (ap new same ∙ put.here) s.1)
  by (inr (_, other)) = apart other (rival type n s.0) refl

pub held_bytes : (pool : PoolType) (f : FieldType) (c : Content) → ((v : Single) → StandsIn v c → AreBytes v)
    → (v : Single) → StandsInHeld v (held_in pool f (Some c)) → AreBytes v
held_bytes pool f c small v s = by (is_set pool f c) s where
  by : (b : Bool) → StandsInHeld v (cond b (content c) absent) → AreBytes v
  by true stands = small v stands
  by false stands = absurd stands

pub unset_bytes : (n : ℕ) (old new : Message) → IsUnset n old new → HoldsBytes old → HoldsBytes new
unset_bytes n old new unset before v s = by (eqb_tells s.0 n) where
  by : {A B : Type 0} → (A × (s.0 ≡ n)) ⊎ (B × (s.0 ≢ n)) → AreBytes v
  by (inl (_, same)) = absurd (subst (StandsInHeld v) (ap new same ∙ unset.here) s.1)
  by (inr (_, other)) = before v (s.0, subst (StandsInHeld v) (unset.others s.0 other) s.1)
