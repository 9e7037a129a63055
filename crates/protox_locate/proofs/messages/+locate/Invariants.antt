use Rattle.std.proofs.Common.{◌≡◌, drop, map}
use Rattle.protox_locate.specs.Collected.{meets, state}
use Rattle.protox_locate.specs.Messages.{added_events, after_added, after_members, in_oneof, items_events, members_events, no_counts}
use Rattle.protox_tree.specs.Nest.{added_of, items_of, members_of}
use Rattle.protox_tree.specs.NestView.{added_view, item_view, member_view}
use Rattle.protox_locate.proofs.messages.+locate.Given as goal

abbrev pub invariant-items-items : goal.invariant-items-items
invariant-items-items l =
    meets (state l.locator) (items_events l.path l.counts (items_of (map item_view (drop l.item-index l.item-items))))
    ≡ meets (state l.initial.locator) (items_events l.path no_counts (items_of (map item_view l.item-items)))

abbrev pub invariant-oneof-members : goal.invariant-oneof-members
invariant-oneof-members l = record {
  located : meets (state l.locator) (members_events l.path l.at l.counts (members_of (map member_view (drop l.item-index l.item-items))))
      ≡ meets (state l.initial.locator) (members_events l.path l.at (in_oneof l.fields) (members_of (map member_view l.item-items)));
  counted : after_members l.counts (members_of (map member_view (drop l.item-index l.item-items))) ≡ after_members (in_oneof l.fields) (members_of (map member_view l.item-items));
}

abbrev pub invariant-extend-inside : goal.invariant-extend-inside
invariant-extend-inside l = record {
  located : meets (state l.locator) (added_events l.path l.tags l.counts l.extendee (added_of (map added_view (drop l.item-index l.item-items))))
      ≡ meets (state l.initial.locator) (added_events l.path l.tags l.initial.counts l.extendee (added_of (map added_view l.item-items)));
  counted : after_added l.counts (added_of (map added_view (drop l.item-index l.item-items))) ≡ after_added l.initial.counts (added_of (map added_view l.item-items));
}
