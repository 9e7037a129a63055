-- A message type's draft has the ranges of its record.
use Rattle.std.proofs.Common.{◌≡◌, ◌∙◌, ◌++◌, ◌∷◌, [], List, map, string_bytes, IsPermutation, ap, subst, rules, refl}
use Rattle.std.proofs.lemmas.List.{map-append}
use Rattle.reflect_tables.specs.Ranges.{reserved_range, extension_range}
use Rattle.reflect_tables.specs.Views.{ranges_of}
use Rattle.reflect_tables.specs.Types.{no_children}
use Rattle.reflect_index.specs.Children.{draft_children, children_at}
use Rattle.reflect_index.specs.Entries.{DeclaredField, OneofName, Head}
use Rattle.reflect_index.specs.Grown.{draft_fields, draft_oneofs, draft_head, declared_field, oneof_name}
use Rattle.reflect_index.specs.DraftNames.{draft_name}
use Rattle.reflect_tables.specs.Names.{FullName}
use Rattle.reflect_index.specs.OfDeclarations.{RangesType, draft_ranges}
use Rattle.reflect_index.proofs.Listed.{none_more}
use Rattle.reflect_index.proofs.Grown.{head_by, head_same}
use Rattle.reflect_index.proofs.visitor.IndexVisitorVisitor.visit_message.Goals as goal

pub returns-clause-step : goal.returns-clause-step
returns-clause-step c =
    let reserved = c.in_ok-reserved.field-0 in
    let extensions = c.in_ok-extensions.field-0 in
    let r : RangesType = record { reserved = ranges_of reserved; extensions = ranges_of extensions; is_entry = c.says_map_entry.result } in
    let old = c.args.self.now.drafts.messages.items in
    let mid = c.declare.new.messages.items in
    let full_name = c.in_ok-from_str.field-0 in
    let made = c.in_ok-declare.ensures in
    let named : string_bytes full_name ≡ c.args.full_name.now = search rules in
    record {
      messages =
          ap (map draft_name) c.in_ok-push.ensures.items
          ∙ map-append draft_name mid _
          ∙ ap {B = List FullName} (λ l. l ++ (string_bytes full_name, c.args.file) ∷ []) made.kept.names
          ∙ ap {B = List FullName} (λ n. map draft_name old ++ (n, c.args.file) ∷ []) named;
      enums = refl;
      extensions = refl;
      services = refl;
      ranges = (
        r,
        record {
          reserved = subst (λ xs. IsPermutation (map reserved_range xs) (ranges_of reserved)) c.as_slice.ensures.value c.in_ok-reserved.ensures;
          extensions = subst (λ xs. IsPermutation (map extension_range xs) (ranges_of extensions)) c.as_slice-2.ensures.value c.in_ok-extensions.ensures;
          is_entry = c.says_map_entry.ensures;
        },
        ap (map draft_ranges) c.in_ok-push.ensures.items ∙ map-append draft_ranges mid _ ∙ ap (λ l. l ++ r ∷ []) made.kept.ranges,
      );
      values = refl;
      value_types = refl;
      fields =
          ap (map draft_fields) c.in_ok-push.ensures.items
          ∙ map-append draft_fields mid _
          ∙ ap {B = List (List DeclaredField)} (λ l. l ++ map declared_field c.new.result.items ∷ []) made.kept.fields
          ∙ ap {B = List (List DeclaredField)} (λ l. map draft_fields old ++ map declared_field l ∷ []) c.new.ensures.items;
      oneofs =
          ap (map draft_oneofs) c.in_ok-push.ensures.items
          ∙ map-append draft_oneofs mid _
          ∙ ap {B = List (List OneofName)} (λ l. l ++ map oneof_name c.new-2.result.items ∷ []) made.kept.oneofs
          ∙ ap {B = List (List OneofName)} (λ l. map draft_oneofs old ++ map oneof_name l ∷ []) c.new-2.ensures.items;
      methods = refl;
      declared = refl;
      message_heads =
          ap (map draft_head) c.in_ok-push.ensures.items
          ∙ map-append draft_head mid _
          ∙ ap {B = List Head} (λ l. l ++ head_by c.in_ok-from_slice.field-0.items (string_bytes c.in_ok-text_copy.field-0) (string_bytes full_name) c.args.file c.args.parent ∷ []) made.kept.heads
          ∙ ap {B = List Head} (λ h. map draft_head old ++ h ∷ []) (head_same _ _ _ _ _ _ c.args.file c.args.parent c.in_ok-from_slice.ensures.items c.in_ok-text_copy.ensures named);
      enum_heads = refl;
      service_heads = refl;
      nested = λ k.
          ap (λ ms. children_at (map draft_children ms) k) c.in_ok-push.ensures.items
          ∙ ap (λ l. children_at l k) (map-append draft_children mid _)
          ∙ ap (λ p. children_at (map draft_children mid ++ p ∷ []) k) c.no_children.ensures
          ∙ none_more no_children (map draft_children mid) k
          ∙ made.nested k;
      outside = made.outside;
      syntax = refl;
      rest = refl;
      first = refl;
      before = refl;
    }
