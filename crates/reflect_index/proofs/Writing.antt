-- One item more of a list whose items take what their references mean, and one level of a message.
use Rattle.std.proofs.Common.{◌≡◌, ℕ, ◌+◌, ◌<◌, List, [], ◌∷◌, ◌++◌, map, length, get_or, set, take, drop, refl, sym, ap, ◌∙◌, append_assoc, add-one, drop-cons, arith, Global}
use Rattle.std.proofs.lemmas.List.{take_more_set, drop-set-lt, get_or-map, map-set, length-map}
use Rattle.std.specs.Option.{option_map}
use Rattle.std.specs.Prelude.{Vec}
use Rattle.descriptor_records.specs.Content.{FieldContent, MessageContent, message, MessageContents, more_messages, messages_of, text_view, texts_view, field_view, message_view, enum_view, extension_range_view, oneof_view, options_view}
use Rattle.descriptor_records.specs.declared.field.FieldDescriptorProto.{FieldDescriptorProto}
use Rattle.descriptor_records.specs.declared.message.DescriptorProto.{DescriptorProto}
use Rattle.descriptor_records.specs.declared.message.DescriptorProto.TheViews.{roll-DescriptorProto, out-DescriptorProto}
use Rattle.descriptor_records.proofs.Messages.{message_view-roll, message_view-out}
use Rattle.reflect_names.specs.References.{Target}
use Rattle.reflect_known.proofs.MessageNames.{unrolled}
use Rattle.reflect_index.specs.Rewriting.{write_each, write_type, write_extension, write_message, write_messages}
use Rattle.reflect_index.proofs.RewrittenMessages.{Level, again, with_fields, with_nested, with_extensions}

abbrev pub with_front : {A : Type 0} → List A → List A × List Target → List A × List Target
with_front front r = (front ++ r.0, r.1)

taken_step : {A : Type 0} (one : List Target → A → A × List Target) (cur : List A) (k : ℕ) (y : A)
    (ts us : List Target)
    → k < length cur → ((d : A) → (y, us) ≡ one ts (get_or cur k d))
    → with_front (take k cur) (write_each one ts (drop k cur))
    ≡ with_front (take (k + 1) (set cur k y)) (write_each one us (drop (k + 1) (set cur k y)))
taken_step {A} one cur k y ts us lt is =
    let ds = drop (k + 1) cur in
    let here : drop k cur ≡ get_or cur k y ∷ ds = drop-cons cur k y lt
    ∙ ap (λ n. get_or cur k y ∷ drop n cur) (sym (add-one k)) in
    let q : List A × List Target = write_each one us ds in
    ap (λ l. with_front (take k cur) (write_each one ts l)) here
    ∙ ap (λ (r : A × List Target). with_front (take k cur)
    (r.0 ∷ (write_each one r.1 ds).0, (write_each one r.1 ds).1)) (sym (is y))
    ∙ ap (λ l. (l, q.1)) (sym (append_assoc (take k cur) (y ∷ []) q.0))
    ∙ ap (λ l. with_front l (write_each one us ds)) (sym (take_more_set cur k y lt))
    ∙ ap (λ l. with_front (take (k + 1) (set cur k y)) (write_each one us l))
    (sym (drop-set-lt (k + 1) cur k y (omega arith)))

-- the same at a place of a list that is seen as another
pub viewed_step : {X A : Type 0} (view : X → A) (one : List Target → A → A × List Target)
    (xs : List X) (k : ℕ) (x y : X) (ts us : List Target)
    (start : List A × List Target) → k < length xs → x ≡ get_or xs k x → (view y, us)
    ≡ one ts (view x)
    → start ≡ with_front (take k (map view xs)) (write_each one ts (drop k (map view xs)))
    → start ≡ with_front (take (k + 1) (map view (set xs k y)))
    (write_each one us (drop (k + 1) (map view (set xs k y))))
viewed_step view one xs k x y ts us start lt at is before =
    let len : k < length (map view xs) = let e = length-map xs view in omega arith in
    before
    ∙ taken_step one (map view xs) k (view y) ts us len
    (λ d. is ∙ ap (one ts) (ap view at ∙ sym (get_or-map view xs k x d lt)))
    ∙ ap (λ l. with_front (take (k + 1) l) (write_each one us (drop (k + 1) l)))
    (sym (map-set view xs k y))

messages_written : (ts : List Target) (ms : List MessageContent)
    → write_messages ts (messages_of ms)
    ≡ (messages_of (write_each write_message ts ms).0, (write_each write_message ts ms).1)
messages_written ts [] = refl
messages_written ts (m ∷ ms) =
    ap (λ (r : MessageContents × List Target). (more_messages (write_message ts m).0 r.0, r.1))
    (messages_written (write_message ts m).1 ms)

-- a level's content with other fields, extensions and messages
abbrev made : Level → List FieldContent → List FieldContent → MessageContents → MessageContent
made m fields extensions nested =
    message (text_view m.name) fields extensions nested (map enum_view m.enum_type.items)
    (map extension_range_view m.extension_range.items) (map oneof_view m.oneof_decl.items)
    (option_map options_view m.options) m.reserved_range.items
    (texts_view m.reserved_name)

-- a message whose fields, messages and extensions took theirs
pub message_written : (was : DescriptorProto) (fields : Vec FieldDescriptorProto Global)
    (nested : Vec DescriptorProto Global)
    (extensions : Vec FieldDescriptorProto Global) (ts us vs ws : List Target)
    → (map field_view fields.items, us)
    ≡ write_each write_type ts (map field_view (out-DescriptorProto was).field.items)
    → (map message_view nested.items, vs)
    ≡ write_each write_message us
    (map message_view (again (with_fields (out-DescriptorProto was) fields)).nested_type.items)
    → (map field_view extensions.items, ws)
    ≡ write_each write_extension vs
    (map field_view (again
    (with_nested (again (with_fields (out-DescriptorProto was) fields))
    nested)).extension.items)
    → (
      message_view
          (roll-DescriptorProto (with_extensions
          (again (with_nested (again (with_fields (out-DescriptorProto was) fields)) nested))
          extensions)),
      ws,
    )
    ≡ write_message ts (message_view was)
message_written was fields nested extensions ts us vs ws e f g =
    let m = out-DescriptorProto was in
    let a : Level = with_fields m fields in
    let b : Level = with_nested a nested in
    let one : again a ≡ a = unrolled a in
    let two : again (with_nested (again a) nested) ≡ b = unrolled (with_nested (again a) nested)
    ∙ ap (λ (o : Level). with_nested o nested) one in
    let inner = f ∙ ap
    (λ (o : Level). write_each write_message us (map message_view o.nested_type.items)) one in
    let last = g ∙ ap
    (λ (o : Level). write_each write_extension vs (map field_view o.extension.items)) two in
    let fs = map field_view fields.items in
    let ns = map message_view m.nested_type.items in
    let xs = map field_view m.extension.items in
    let third : List FieldContent × List Target
    → MessageContent × List Target = λ x.
    (made m fs x.0 (messages_of (map message_view nested.items)), x.1) in
    let second : MessageContents × List Target → MessageContent × List Target = λ q. (
      made m fs (write_each write_extension q.1 xs).0 q.0,
      (write_each write_extension q.1 xs).1,
    ) in
    let first : List FieldContent × List Target → MessageContent × List Target = λ r. (
      made m r.0 (write_each write_extension (write_messages r.1 (messages_of ns)).1 xs).0
          (write_messages r.1 (messages_of ns)).0,
      (write_each write_extension (write_messages r.1 (messages_of ns)).1 xs).1,
    ) in
    ap (λ (o : Level). (message_view (roll-DescriptorProto (with_extensions o extensions)), ws)) two
    ∙ ap (λ c. (c, ws)) (message_view-roll (with_extensions b extensions))
    ∙ ap third last
    ∙ ap second (ap (λ (p : List MessageContent × List Target). (messages_of p.0, p.1)) inner
    ∙ sym (messages_written us ns))
    ∙ ap first e
    ∙ ap (write_message ts) (sym (message_view-out was))
