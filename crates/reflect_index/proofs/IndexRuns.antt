-- What a walk of the visitor of entries leaves.
use Rattle.std.proofs.Common.{◌≡◌, ◌∙◌, List, [], ◌∷◌, ◌++◌, map, ap, sym, append_assoc}
use Rattle.std.proofs.lemmas.List.{append-nil}
use Rattle.reflect_declarations.specs.Tree.{MessageParts}
use Rattle.reflect_declarations.specs.Declarations.{Declaration, Body, of_file, of_message, of_field, of_oneof, of_enum, of_enum_value, of_service, of_method, of_extension, Runs}
use Rattle.reflect_tables.specs.Names.{messages, enums, extensions, services}
use Rattle.reflect_known.specs.DeclaredNames.{with_names}
use Rattle.reflect_index.specs.DraftNames.{draft_name, enum_draft_name, stored_extension_name, stored_service_name}
use Rattle.reflect_index.specs.IndexSteps.{Lists}
use Rattle.reflect_index.specs.OfDeclarations.{RangesType, AllDeclared, AddsRanges, message_in, messages_in, draft_ranges, draft_values}
use Rattle.reflect_index.proofs.Valued.{with_values}
use Rattle.reflect_index.specs.declared.visitor.IndexVisitor.{IndexVisitor}

all_on : (ms ns : List MessageParts) (rs ss : List RangesType) → AllDeclared ms rs → AllDeclared ns ss → AllDeclared (ms ++ ns) (rs ++ ss)
all_on [] ns [] ss a b = b
all_on [] ns (r ∷ rs) ss a b = absurd a
all_on (m ∷ ms) ns [] ss a b = absurd a
all_on (m ∷ ms) ns (r ∷ rs) ss a b = (a.0, all_on ms ns rs ss a.1 b)

-- the ranges of message types stand behind others
abbrev pub Behind : List RangesType → List MessageParts → List RangesType → Type 0
Behind old ms new = (rs : List RangesType) × AllDeclared ms rs × (new ≡ old ++ rs)

none_behind : (old new : List RangesType) → new ≡ old → Behind old [] new
none_behind old new e = ([], tt, e ∙ sym (append-nil old))

one_behind : (old new : List RangesType) (b : Body) → AddsRanges old b new → Behind old (message_in b) new
one_behind old new (of_file f) h = none_behind old new h
one_behind old new (of_message m) h = (h.0 ∷ [], (h.1, tt), h.2)
one_behind old new (of_field f) h = none_behind old new h
one_behind old new (of_oneof o) h = none_behind old new h
one_behind old new (of_enum e) h = none_behind old new h
one_behind old new (of_enum_value v) h = none_behind old new h
one_behind old new (of_service s) h = none_behind old new h
one_behind old new (of_method m) h = none_behind old new h
one_behind old new (of_extension x) h = none_behind old new h

behind_on : (a b c : List RangesType) (ms ns : List MessageParts) → Behind a ms b → Behind b ns c → Behind a (ms ++ ns) c
behind_on a b c ms ns h k = (h.0 ++ k.0, all_on ms ns h.0 k.0 h.1 k.1, k.2 ∙ ap (λ l. l ++ k.0) h.2 ∙ append_assoc a h.0 k.0)

pub record Ran (s : IndexVisitor) (ds : List Declaration) (t : IndexVisitor) : Type 0 where
  pub messages : map draft_name t.drafts.messages.items ≡ with_names messages (map draft_name s.drafts.messages.items) ds
  pub enums : map enum_draft_name t.drafts.enums.items ≡ with_names enums (map enum_draft_name s.drafts.enums.items) ds
  pub extensions : map stored_extension_name t.drafts.extensions.items ≡ with_names extensions (map stored_extension_name s.drafts.extensions.items) ds
  pub services : map stored_service_name t.drafts.services.items ≡ with_names services (map stored_service_name s.drafts.services.items) ds
  pub ranges : Behind (map draft_ranges s.drafts.messages.items) (messages_in ds) (map draft_ranges t.drafts.messages.items)
  pub values : map draft_values t.drafts.enums.items ≡ with_values s.before.enums (map draft_values s.drafts.enums.items) ds

pub ran : (s : IndexVisitor) (ds : List Declaration) (t : IndexVisitor) → Runs Lists s ds t → Ran s ds t
ran s [] t e = record {
  messages = ap (λ v. map draft_name v.drafts.messages.items) e;
  enums = ap (λ v. map enum_draft_name v.drafts.enums.items) e;
  extensions = ap (λ v. map stored_extension_name v.drafts.extensions.items) e;
  services = ap (λ v. map stored_service_name v.drafts.services.items) e;
  ranges = none_behind _ _ (ap (λ v. map draft_ranges v.drafts.messages.items) e);
  values = ap (λ v. map draft_values v.drafts.enums.items) e;
}
ran s (d ∷ ds) t (m, (step, rest)) =
    let r = ran m ds t rest in
    record {
      messages = r.messages ∙ ap (λ names. with_names messages names ds) step.messages;
      enums = r.enums ∙ ap (λ names. with_names enums names ds) step.enums;
      extensions = r.extensions ∙ ap (λ names. with_names extensions names ds) step.extensions;
      services = r.services ∙ ap (λ names. with_names services names ds) step.services;
      ranges =
          let olds = map draft_ranges s.drafts.messages.items in
          let mids = map draft_ranges m.drafts.messages.items in
          behind_on olds mids (map draft_ranges t.drafts.messages.items) (message_in d.body) (messages_in ds) (one_behind olds mids d.body step.ranges) r.ranges;
      values = r.values ∙ ap (λ o. with_values o.enums (map draft_values m.drafts.enums.items) ds) step.before ∙ ap (λ vs. with_values s.before.enums vs ds) step.values;
    }
