use Rattle.std.proofs.Common.{◌≡◌, ◌∙◌, ◌++◌, List, [], Result, Ok, Err, IfOk, ap, map, subst, sym}
use Rattle.reflect_declarations.specs.Tree.{MessageParts}
use Rattle.reflect_declarations.specs.Batches.{batch_declarations}
use Rattle.reflect_tables.specs.Names.{messages, enums, extensions, services}
use Rattle.reflect_known.specs.DeclaredNames.{with_names}
use Rattle.reflect_index.specs.DraftNames.{draft_name, enum_draft_name, stored_extension_name, stored_service_name}
use Rattle.reflect_index.specs.OfDeclarations.{RangesType, AllDeclared, messages_in, draft_ranges, stored_ranges, draft_values}
use Rattle.reflect_index.proofs.IndexRuns.{Behind, ran}
use Rattle.reflect_index.proofs.Valued.{with_values, all_values}
use Rattle.reflect_index.specs.Along.{AtHand, before_files}
use Rattle.reflect_index.specs.IndexSteps.{hand_of}
use Rattle.reflect_index.proofs.EntryRuns.{Begins, batch_of}
use Rattle.reflect_tables.specs.declared.kind.Syntax.TheVariants.{Proto2}
use Rattle.reflect_passes.proofs.index_pass.index_files.Goals as goal

ok_with : {A E : Type 0} (P Q : A → Type 0) (r : Result A E) → ((x : A) → P x → Q x) → IfOk r P → IfOk r Q
ok_with P Q (Ok x) f h = f x h
ok_with P Q (Err e) f h = h

pub returns-clause-messages : goal.returns-clause-messages
returns-clause-messages c =
    let ds = batch_declarations c.args.before c.args.first c.args.files.now in
    let r = ran c.new-visitor.result ds c.visit_all.new.visitor c.in_ok-visit_all.ensures.runs in
    ok_with _ _ c.into_batch.result (λ b f. f.messages.names ∙ r.messages ∙ ap (λ ms. with_names messages (map draft_name ms) ds) c.new-visitor.ensures.messages) c.into_batch.ensures

pub returns-clause-enums : goal.returns-clause-enums
returns-clause-enums c =
    let ds = batch_declarations c.args.before c.args.first c.args.files.now in
    let r = ran c.new-visitor.result ds c.visit_all.new.visitor c.in_ok-visit_all.ensures.runs in
    ok_with _ _ c.into_batch.result (λ b f. f.enums.names ∙ r.enums ∙ ap (λ es. with_names enums (map enum_draft_name es) ds) c.new-visitor.ensures.enums) c.into_batch.ensures

pub returns-clause-extensions : goal.returns-clause-extensions
returns-clause-extensions c =
    let ds = batch_declarations c.args.before c.args.first c.args.files.now in
    let r = ran c.new-visitor.result ds c.visit_all.new.visitor c.in_ok-visit_all.ensures.runs in
    ok_with _ _ c.into_batch.result (λ b f. ap (map stored_extension_name) f.extensions ∙ r.extensions ∙ ap (λ xs. with_names extensions (map stored_extension_name xs) ds) c.new-visitor.ensures.extensions) c.into_batch.ensures

pub returns-clause-services : goal.returns-clause-services
returns-clause-services c =
    let ds = batch_declarations c.args.before c.args.first c.args.files.now in
    let r = ran c.new-visitor.result ds c.visit_all.new.visitor c.in_ok-visit_all.ensures.runs in
    ok_with _ _ c.into_batch.result (λ b f. ap (map stored_service_name) f.services ∙ r.services ∙ ap (λ xs. with_names services (map stored_service_name xs) ds) c.new-visitor.ensures.services) c.into_batch.ensures

-- what stands behind nothing
all_there : (ms : List MessageParts) (old new made : List RangesType) → old ≡ [] → Behind old ms new → made ≡ new → AllDeclared ms made
all_there ms old new made none h same = subst (AllDeclared ms) (sym (same ∙ h.2 ∙ ap (λ l. l ++ h.0) none)) h.1

pub returns-clause-ranges : goal.returns-clause-ranges
returns-clause-ranges c =
    let ds = batch_declarations c.args.before c.args.first c.args.files.now in
    let r = ran c.new-visitor.result ds c.visit_all.new.visitor c.in_ok-visit_all.ensures.runs in
    let old = map draft_ranges c.new-visitor.result.drafts.messages.items in
    let new = map draft_ranges c.visit_all.new.visitor.drafts.messages.items in
    ok_with _ _ c.into_batch.result (λ b f. all_there (messages_in ds) old new (map stored_ranges b.messages.items) (ap (map draft_ranges) c.new-visitor.ensures.messages) r.ranges f.messages.ranges) c.into_batch.ensures

pub returns-clause-values : goal.returns-clause-values
returns-clause-values c =
    let before = c.args.before in
    let fs = c.args.files.now in
    let ds = batch_declarations before c.args.first fs in
    let v = c.new-visitor.result in
    let r = ran v ds c.visit_all.new.visitor c.in_ok-visit_all.ensures.runs in
    let begun : with_values v.before.enums (map draft_values v.drafts.enums.items) ds ≡ with_values before.enums [] ds =
    ap (λ o. with_values o.enums (map draft_values v.drafts.enums.items) ds) c.new-visitor.ensures.before
    ∙ ap (λ es. with_values before.enums (map draft_values es) ds) c.new-visitor.ensures.enums in
    ok_with _ _ c.into_batch.result (λ b f. f.enums.values ∙ r.values ∙ begun ∙ all_values before c.args.first fs) c.into_batch.ensures

pub returns-clause-listed : goal.returns-clause-listed
returns-clause-listed c = ok_with _ _ c.into_batch.result (λ b f. f.messages.listed) c.into_batch.ensures

pub returns-clause-entries : goal.returns-clause-entries
returns-clause-entries c =
    let rs = c.args.references.now in
    let ds = batch_declarations c.args.before c.args.first c.args.files.now in
    let v = c.new-visitor.result in
    let begun = c.new-visitor.ensures in
    let hand : hand_of v ≡ before_files rs =
    ap {B = AtHand} (λ x. record { syntax = x; rest = v.references.rest.now }) begun.syntax ∙ ap {B = AtHand} (λ l. record { syntax = Proto2; rest = l }) begun.rest in
    let begins : Begins rs c.args.before c.args.first v = record {
      hand = hand;
      before = begun.before;
      first = begun.first;
      files = begun.files;
      messages = begun.messages;
      enums = begun.enums;
      services = begun.services;
      extensions = begun.extensions;
    } in
    ok_with _ _ c.into_batch.result (λ b f. batch_of rs c.args.before c.args.first ds v c.visit_all.new.visitor b begins c.in_ok-visit_all.ensures.runs f) c.into_batch.ensures
