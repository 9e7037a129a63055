-- One level of what stands in messages: the types of `src/message.rt` of protox_tree, opened once.
use Rattle.protox_tree.specs.declared.message.Extend.{Extend}
use Rattle.protox_tree.specs.declared.message.ExtendItem.{ExtendItem}
use Rattle.protox_tree.specs.declared.message.ExtendItem.TheOpen.{ExtendItem-F, FieldKind-F, MessageItem-F, OneofItem-F}
use Rattle.protox_tree.specs.declared.message.Field.{Field}
use Rattle.protox_tree.specs.declared.message.FieldKind.{FieldKind}
use Rattle.protox_tree.specs.declared.message.Group.{Group}
use Rattle.protox_tree.specs.declared.message.Message.{Message}
use Rattle.protox_tree.specs.declared.message.MessageItem.{MessageItem}
use Rattle.protox_tree.specs.declared.message.Oneof.{Oneof}
use Rattle.protox_tree.specs.declared.message.OneofItem.{OneofItem}

abbrev pub AddedLayer : Type 0
AddedLayer = ExtendItem-F ExtendItem FieldKind MessageItem OneofItem Extend Field
    Group Message Oneof

abbrev pub KindLayer : Type 0
KindLayer = FieldKind-F ExtendItem FieldKind MessageItem OneofItem Extend Field Group Message Oneof

abbrev pub ItemLayer : Type 0
ItemLayer = MessageItem-F ExtendItem FieldKind MessageItem OneofItem Extend Field
    Group Message Oneof

abbrev pub MemberLayer : Type 0
MemberLayer = OneofItem-F ExtendItem FieldKind MessageItem OneofItem Extend Field
    Group Message Oneof
