-- What messages hold in a block, once a value in it has changed.
use Rattle.std.proofs.Common.{◌≡◌, ℕ, List, [], Option, Box, Global, refl, sym, ap, ◌∙◌, subst}
use Rattle.reflect_entries.specs.Entries.{Updates}
use Rattle.reflect_entries.specs.Undeclared.{undeclared}
use Rattle.reflect_entries.proofs.Places.{again}
use Rattle.reflect_message.specs.Held.{fields_in, choices_in, extensions_in, unknown_in, Stays, UpdatesExtension, UpdatesField}
use Rattle.reflect_message.specs.declared.message.MessageOf.{MessageOf}
use Rattle.reflect_message.specs.declared.parts.HeldOf.{HeldOf, Block}
use Rattle.reflect_message.specs.declared.parts.HeldOf.TheOpen.{HeldOf-F}
use Rattle.reflect_message.specs.declared.parts.HeldOf.TheViews.{outs-Block}
use Rattle.reflect_message.specs.declared.parts.PartsOf.{PartsOf}
use Rattle.reflect_message.specs.declared.value.ValueOf.{ValueOf}

-- what is held, opened
abbrev Open : Type 0 → Type 0
Open D = HeldOf-F D (HeldOf D) (ValueOf D) (MessageOf D) (PartsOf D)

module _ {D : Type 0} where
  pub fields_in-Block : (b : Box (PartsOf D) Global) → fields_in (Block b) ≡ b.value.fields
  fields_in-Block b = ap (λ (o : Open D). elim o [ HeldOf-F.Nothing ↦ [] | HeldOf-F.Block x ↦ x.value.fields ]) (outs-Block b)

  pub choices_in-Block : (b : Box (PartsOf D) Global) → choices_in (Block b) ≡ b.value.choices.members
  choices_in-Block b = ap (λ (o : Open D). elim o [ HeldOf-F.Nothing ↦ [] | HeldOf-F.Block x ↦ x.value.choices.members ]) (outs-Block b)

  pub extensions_in-Block : (b : Box (PartsOf D) Global) → extensions_in (Block b) ≡ b.value.extensions
  extensions_in-Block b = ap (λ (o : Open D). elim o [ HeldOf-F.Nothing ↦ [] | HeldOf-F.Block x ↦ x.value.extensions ]) (outs-Block b)

  pub unknown_in-Block : (b : Box (PartsOf D) Global) → unknown_in (Block b) ≡ undeclared b.value.unknown
  unknown_in-Block b = ap (λ (o : Open D). elim o [ HeldOf-F.Nothing ↦ [] | HeldOf-F.Block x ↦ undeclared x.value.unknown ]) (outs-Block b)

  -- p is what lay in the block
  module _ (b : Box (PartsOf D) Global) (p : PartsOf D) (at : p ≡ b.value) where
    pub fields_had : p.fields ≡ fields_in (Block b)
    fields_had = ap (λ (p : PartsOf D). p.fields) at ∙ sym (fields_in-Block b)

    choices_had : p.choices.members ≡ choices_in (Block b)
    choices_had = ap (λ (p : PartsOf D). p.choices.members) at ∙ sym (choices_in-Block b)

    pub extensions_had : p.extensions ≡ extensions_in (Block b)
    extensions_had = ap (λ (p : PartsOf D). p.extensions) at ∙ sym (extensions_in-Block b)

    unknown_had : undeclared p.unknown ≡ unknown_in (Block b)
    unknown_had = ap (λ (p : PartsOf D). undeclared p.unknown) at ∙ sym (unknown_in-Block b)

    -- and q what lies there then
    module _ (d : D) (alloc : Global) (q : PartsOf D) where
      abbrev before : MessageOf D
      before = record { descriptor = d; alloc = alloc; held = Block b }

      abbrev block : Box (PartsOf D) Global
      block = record { ptr = b.ptr; alloc = b.alloc; value = q }

      abbrev after : MessageOf D
      after = record { descriptor = d; alloc = alloc; held = Block block }

      fields_stay : q.fields ≡ p.fields → fields_in (Block block) ≡ fields_in (Block b)
      fields_stay e = fields_in-Block block ∙ (e ∙ fields_had)

      choices_stay : q.choices.members ≡ p.choices.members → choices_in (Block block) ≡ choices_in (Block b)
      choices_stay e = choices_in-Block block ∙ (e ∙ choices_had)

      extensions_stay : q.extensions ≡ p.extensions → extensions_in (Block block) ≡ extensions_in (Block b)
      extensions_stay e = extensions_in-Block block ∙ (e ∙ extensions_had)

      unknown_stays : undeclared q.unknown ≡ undeclared p.unknown → unknown_in (Block block) ≡ unknown_in (Block b)
      unknown_stays e = unknown_in-Block block ∙ (e ∙ unknown_had)

      pub puts_field : (number : ℕ) (given : Option (ValueOf D)) → Updates p.fields q.fields number given → q.choices.members ≡ p.choices.members → q.extensions ≡ p.extensions → undeclared q.unknown ≡ undeclared p.unknown → UpdatesField before after number given
      puts_field number given u choices extensions unknown = record {
        same_type = refl;
        field = subst (λ (es : List (ℕ × ValueOf D)). Updates es (fields_in (Block block)) number given) fields_had
            (subst (λ (es : List (ℕ × ValueOf D)). Updates p.fields es number given) (sym (fields_in-Block block)) u);
        choices = choices_stay choices;
        extensions = extensions_stay extensions;
        unknown = unknown_stays unknown;
      }

      pub puts_extension : (number : ℕ) (given : Option (ValueOf D)) → Updates p.extensions q.extensions number given → q.fields ≡ p.fields → q.choices.members ≡ p.choices.members → undeclared q.unknown ≡ undeclared p.unknown → UpdatesExtension before after number given
      puts_extension number given u fields choices unknown = record {
        same_type = refl;
        fields = fields_stay fields;
        choices = choices_stay choices;
        extension = subst (λ (es : List (ℕ × ValueOf D)). Updates es (extensions_in (Block block)) number given) extensions_had
            (subst (λ (es : List (ℕ × ValueOf D)). Updates p.extensions es number given) (sym (extensions_in-Block block)) u);
        unknown = unknown_stays unknown;
      }

      pub stays : q.fields ≡ p.fields → q.choices.members ≡ p.choices.members → q.extensions ≡ p.extensions → undeclared q.unknown ≡ undeclared p.unknown → Stays before after
      stays fields choices extensions unknown = record {
        same_type = refl;
        fields = fields_stay fields;
        choices = choices_stay choices;
        extensions = extensions_stay extensions;
        unknown = unknown_stays unknown;
      }

  -- what goes over a value that was put under the number of an extension
  pub extension_again : {old between new : MessageOf D} {number : ℕ} {v w : Option (ValueOf D)} → UpdatesExtension old between number v → UpdatesExtension between new number w → UpdatesExtension old new number w
  extension_again put over = record {
    same_type = over.same_type ∙ put.same_type;
    fields = over.fields ∙ put.fields;
    choices = over.choices ∙ put.choices;
    extension = again put.extension over.extension;
    unknown = over.unknown ∙ put.unknown;
  }
