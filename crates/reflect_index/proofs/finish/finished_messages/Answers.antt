use Rattle.std.proofs.Common.{◌≡◌, ◌∙◌, ◌++◌, ◌∷◌, [], List, map, ap, sym, subst}
use Rattle.std.proofs.lemmas.List.{map-append}
use Rattle.std.specs.List.{AllByRecursion}
use Rattle.reflect_tables.specs.Types.{ListsMembers}
use Rattle.reflect_tables.specs.Views.{message_of}
use Rattle.reflect_tables.specs.declared.stored.StoredMessage.{StoredMessage}
use Rattle.reflect_index.specs.Children.{draft_children, stored_children}
use Rattle.reflect_index.specs.DraftNames.{draft_name, stored_message_name}
use Rattle.reflect_index.specs.Entry.{KeepsEntry}
use Rattle.reflect_index.specs.Finished.{FinishedMessages}
use Rattle.reflect_index.specs.Grown.{draft_fields, draft_oneofs, draft_head, message_head, stored_fields, stored_oneofs}
use Rattle.reflect_index.specs.Members.{MarksOneofs}
use Rattle.reflect_index.specs.OfDeclarations.{draft_ranges, stored_ranges}
use Rattle.reflect_index.proofs.Orders.{all_push}
use Rattle.reflect_index.proofs.finish.finished_messages.Goals as goal

one_more : {A B X : Type 0} (f : A → X) (g : B → X) (xs : List A) (ys : List B) (x : A) (y : B) → map f xs ≡ map g ys → f x ≡ g y → map f (xs ++ x ∷ []) ≡ map g (ys ++ y ∷ [])
one_more f g xs ys x y before here =
    map-append f xs (x ∷ []) ∙ ap (λ l. l ++ f x ∷ []) before ∙ ap (λ z. map g ys ++ z ∷ []) here ∙ sym (map-append g ys (y ∷ []))

pub loop-draft-preserved : goal.loop-draft-preserved
loop-draft-preserved c =
    let ms = c.loop-draft.messages.items in
    let ds = c.loop-draft.yielded in
    let m = c.in_ok-finished_message.field-0 in
    let d = c.in-Some.draft in
    let before = c.loop-draft.invariant in
    let here = c.in_ok-finished_message.ensures in
    subst (FinishedMessages (ds ++ d ∷ [])) (sym {A = List StoredMessage} c.in_ok-push.ensures.items) (record {
      names = one_more stored_message_name draft_name ms ds m d before.names here.name;
      ranges = one_more stored_ranges draft_ranges ms ds m d before.ranges here.ranges;
      heads = one_more message_head draft_head ms ds m d before.heads here.head;
      fields = one_more stored_fields draft_fields ms ds m d before.fields here.fields;
      oneofs = one_more stored_oneofs draft_oneofs ms ds m d before.oneofs here.oneofs;
      children = one_more stored_children draft_children ms ds m d before.children here.children;
      listed = subst (AllByRecursion ListsMembers) (sym (map-append message_of ms (m ∷ []))) (all_push ListsMembers (map message_of ms) (message_of m) before.listed here.listed);
      marked = all_push MarksOneofs ms m before.marked here.marked;
      entries = all_push KeepsEntry ms m before.entries here.entry;
    })
