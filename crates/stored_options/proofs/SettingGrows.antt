-- What options set of declared types they set too where a schema says more.
use Rattle.std.proofs.Common.{◌≡◌, ℕ, ℤ, zero, suc, Bool, true, List, [], ◌∷◌, Option, None, Some, option_map, refl, sym, ap, ◌∙◌, subst}
use mathlib.Core.Path.{fun_ext}
use Rattle.descriptor_records.specs.Content.{NameContent, OptionContent}
use Rattle.texts_view.specs.SaysAll.{HaveEntryValues, SaysAll}
use Rattle.texts_view.proofs.Adding.{add_all_same, assign_same}
use Rattle.texts_view.proofs.Grown.{given_again}
use Rattle.stored_options.specs.SetOptions.{Gets, Leads, Says, SetsAll, SetsLast, SetsParts}
use Rattle.option_setter.specs.OptionValues.{scalar_said}
use Rattle.protobuf_model.specs.Types.{Name, Kind, scalar, nested, Label, one, many, keyed, Field, oneof_of}
use Rattle.protobuf_model.specs.Values.{Content, single, message, content, Message}
use Rattle.text_model.specs.Schemas.{Schema, shape_of}
use Rattle.text_model.specs.Value.{of_message, settled, wanted_in, wanted_of}

module _ (old_schema new_schema : Schema) (declared : Name → Bool) (all : SaysAll old_schema new_schema declared) (values : HaveEntryValues old_schema) where
  oneof_stays : (t : Name) → declared t ≡ true → (n : ℕ) → oneof_of (old_schema.types t n) ≡ oneof_of (new_schema.types t n)
  oneof_stays t there n = by (old_schema.types t n) refl where
    by : (x : Option Field) → old_schema.types t n ≡ x → oneof_of x ≡ oneof_of (new_schema.types t n)
    by None e = sym (all.apart t n there e)
    by (Some f) e = sym (ap oneof_of (all.fields t n f there e))

  -- ---- what an option says to a field

  text_stays : (o : OptionContent) (u : Name) → declared u ≡ true → (c : Content) → Says old_schema o (of_message (shape_of old_schema u)) c → Says new_schema o (of_message (shape_of new_schema u)) c
  text_stays o u there c (z, tree, m, at, text, gives, is) =
      let r = given_again old_schema new_schema declared all values u there z m (tree, text, gives) in (z, r.0, m, at, r.1, r.2, is)

  kind_stays : (o : OptionContent) (t : Name) (n : ℕ) (f : Field) → declared t ≡ true → old_schema.types t n ≡ Some f → (k : Kind) → f.part.kind ≡ k → (c : Content)
      → Says old_schema o (wanted_in old_schema ((old_schema.names t).enum_number n) k) c → Says new_schema o (wanted_in new_schema ((new_schema.names t).enum_number n) k) c
  kind_stays o t n f there has (scalar k) is c says =
      let names : (new_schema.names t).enum_number n ≡ (old_schema.names t).enum_number n = fun_ext (λ x. all.enums t n f x there has) in
      ap (λ enum. option_map single (scalar_said enum k o)) names ∙ says
  kind_stays o t n f there has (nested frame u) is c says = text_stays o u (all.inside t n f frame u there has is) c says

  says_stays : (o : OptionContent) (t : Name) (n : ℕ) (f : Field) → declared t ≡ true → old_schema.types t n ≡ Some f → (l : Label) → f.label ≡ l → (c : Content)
      → Says old_schema o (wanted_of old_schema (old_schema.names t) n f.part l) c → Says new_schema o (wanted_of new_schema (new_schema.names t) n f.part l) c
  says_stays o t n f there has one is c says = kind_stays o t n f there has f.part.kind refl c says
  says_stays o t n f there has (many packed) is c says = kind_stays o t n f there has f.part.kind refl c says
  says_stays o t n f there has (keyed key) is c says =
      let entry = all.entries t n f key there has is in
      subst (λ u. Says new_schema o (of_message (shape_of new_schema u)) c) (sym entry.0) (text_stays o ((old_schema.names t).entry n) entry.1 c says)

  gets_stays : (t : Name) → declared t ≡ true → (n : ℕ) (f : Field) (l : Label) (c : Content) (old new : Message) → Gets (old_schema.types t) n f l c old new → Gets (new_schema.types t) n f l c old new
  gets_stays t there n f one c old new gets = (gets.0, gets.1 ∙ assign_same (old_schema.types t) (new_schema.types t) (oneof_stays t there) n (settled f.part c) old)
  gets_stays t there n f (many packed) c old new gets = sym (add_all_same (old_schema.types t) (new_schema.types t) (oneof_stays t there) n f.part (many packed) old (c ∷ [])) ∙ gets
  gets_stays t there n f (keyed key) c old new gets = sym (add_all_same (old_schema.types t) (new_schema.types t) (oneof_stays t there) n f.part (keyed key) old (c ∷ [])) ∙ gets

  -- ---- along a name

  module _ (leads : Leads) where
    last_stays : (o : OptionContent) (t : Name) → declared t ≡ true → (part : NameContent) (old new : Message) (path : List ℤ) → SetsLast old_schema leads o t part old new path
        → SetsLast new_schema leads o t part old new path
    last_stays o t there part old new path (n, f, c, led, has, says, gets, is) = (
      n,
      f,
      c,
      led,
      all.fields t n f there has,
      says_stays o t n f there has f.label refl c says,
      gets_stays t there n f f.label c old new gets,
      is,
    )

    parts_stay : (o : OptionContent) (levels : ℕ) (parts : List NameContent) (t : Name) → declared t ≡ true → (old new : Message) (path : List ℤ) → SetsParts old_schema leads o levels t parts old new path
        → SetsParts new_schema leads o levels t parts old new path
    parts_stay o levels [] t there old new path sets = sets
    parts_stay o levels (part ∷ []) t there old new path sets = last_stays o t there part old new path sets
    parts_stay o zero (part ∷ next ∷ parts) t there old new path sets = absurd sets
    parts_stay o (suc levels) (part ∷ next ∷ parts) t there old new path (n, u, into, inner, rest, sets, is, along) = (
      n,
      u,
      record {
        field = into.field;
        frame = into.frame;
        led = into.led;
        declared = all.fields t n into.field there into.declared;
        alone = into.alone;
        kind = into.kind;
      },
      inner,
      rest,
      parts_stay o levels (next ∷ parts) u (all.inside t n into.field into.frame u there into.declared into.kind) _ inner rest sets,
      is ∙ assign_same (old_schema.types t) (new_schema.types t) (oneof_stays t there) n (content (message inner)) old,
      along,
    )

    pub all_stay : (t : Name) → declared t ≡ true → (os : List OptionContent) (old new : Message) (paths : List (List ℤ)) → SetsAll old_schema leads t os old new paths
        → SetsAll new_schema leads t os old new paths
    all_stay t there [] old new paths sets = sets
    all_stay t there (o ∷ os) old new paths (next, path, rest, sets, more, is) =
        (next, path, rest, parts_stay o 100 o.name t there old next path sets, all_stay t there os next new rest more, is)
