-- What the items of a message give, statement by statement.
use Rattle.std.proofs.Common.{◌≡◌, ◌∙◌, ◌<◌, ◌+◌, ◌++◌, ℕ, List, [], take, length, get_or, refl, ap, sym}
use Rattle.std.specs.List.{flat_map}
use Rattle.protox_field_records.proofs.Loops.{next}
use Rattle.protox_field_records.specs.Layers.{ItemLayer}
use Rattle.protox_message_records.specs.MessageRecords.{enum_in, extension_ranges_in, extensions_in, oneof_in, option_in, reserved_names_in, reserved_ranges_in}
use Rattle.protox_tree.specs.declared.enumeration.Enum.{Enum}
use Rattle.protox_tree.specs.declared.message.Extend.{Extend}
use Rattle.protox_tree.specs.declared.message.ExtendItem.TheOpen.{MessageItem-F}
use Rattle.protox_tree.specs.declared.message.ExtendItem.TheViews.{out-MessageItem, roll-MessageItem, roll-out-MessageItem}
use Rattle.protox_tree.specs.declared.message.MessageItem.{MessageItem}
use Rattle.protox_tree.specs.declared.message.MessageItem.TheVariants as variants
use Rattle.protox_tree.specs.declared.message.Oneof.{Oneof}
use Rattle.protox_tree.specs.declared.option.OptionStatement.{OptionStatement}
use Rattle.protox_tree.specs.declared.range.Extensions.{Extensions}
use Rattle.protox_tree.specs.declared.range.Reserved.{Reserved}

-- an item whose records are added
pub added : {A B : Type 0} (f : A → List B) (xs : List A) (made new more : List B) (i : ℕ) (x : A) → i < length xs → x ≡ get_or xs i x → f x ≡ more → new ≡ made ++ more → made ≡ flat_map f (take i xs) → new ≡ flat_map f (take (i + 1) xs)
added f xs made new more i x lt is at adds before = adds ∙ ap (λ ys. ys ++ more) before ∙ ap (λ ys. flat_map f (take i xs) ++ ys) (sym at) ∙ sym (next f xs i x lt is)

-- of an item that is no such statement there is nothing
pub no_oneof : (x : MessageItem) (y : ItemLayer) → out-MessageItem x ≡ y → ((s : Oneof) → x ≡ variants.Oneof s → ⊥) → oneof_in y ≡ []
no_oneof x (MessageItem-F.«MessageItem::Field» f) is h = refl
no_oneof x (MessageItem-F.Oneof o) is h = absurd (h o (sym (roll-out-MessageItem x) ∙ ap roll-MessageItem is ∙ variants.rolls-Oneof o))
no_oneof x (MessageItem-F.Message m) is h = refl
no_oneof x (MessageItem-F.Enum e) is h = refl
no_oneof x (MessageItem-F.Extend e) is h = refl
no_oneof x (MessageItem-F.Extensions e) is h = refl
no_oneof x (MessageItem-F.Reserved r) is h = refl
no_oneof x (MessageItem-F.«MessageItem::Option» o) is h = refl
no_oneof x (MessageItem-F.«MessageItem::Empty» span) is h = refl

pub no_enum : (x : MessageItem) (y : ItemLayer) → out-MessageItem x ≡ y → ((s : Enum) → x ≡ variants.Enum s → ⊥) → enum_in y ≡ []
no_enum x (MessageItem-F.«MessageItem::Field» f) is h = refl
no_enum x (MessageItem-F.Oneof o) is h = refl
no_enum x (MessageItem-F.Message m) is h = refl
no_enum x (MessageItem-F.Enum e) is h = absurd (h e (sym (roll-out-MessageItem x) ∙ ap roll-MessageItem is ∙ variants.rolls-Enum e))
no_enum x (MessageItem-F.Extend e) is h = refl
no_enum x (MessageItem-F.Extensions e) is h = refl
no_enum x (MessageItem-F.Reserved r) is h = refl
no_enum x (MessageItem-F.«MessageItem::Option» o) is h = refl
no_enum x (MessageItem-F.«MessageItem::Empty» span) is h = refl

pub no_extend : (x : MessageItem) (y : ItemLayer) → out-MessageItem x ≡ y → ((s : Extend) → x ≡ variants.Extend s → ⊥) → extensions_in y ≡ []
no_extend x (MessageItem-F.«MessageItem::Field» f) is h = refl
no_extend x (MessageItem-F.Oneof o) is h = refl
no_extend x (MessageItem-F.Message m) is h = refl
no_extend x (MessageItem-F.Enum e) is h = refl
no_extend x (MessageItem-F.Extend e) is h = absurd (h e (sym (roll-out-MessageItem x) ∙ ap roll-MessageItem is ∙ variants.rolls-Extend e))
no_extend x (MessageItem-F.Extensions e) is h = refl
no_extend x (MessageItem-F.Reserved r) is h = refl
no_extend x (MessageItem-F.«MessageItem::Option» o) is h = refl
no_extend x (MessageItem-F.«MessageItem::Empty» span) is h = refl

pub no_extensions : (x : MessageItem) (y : ItemLayer) → out-MessageItem x ≡ y → ((s : Extensions) → x ≡ variants.Extensions s → ⊥) → extension_ranges_in y ≡ []
no_extensions x (MessageItem-F.«MessageItem::Field» f) is h = refl
no_extensions x (MessageItem-F.Oneof o) is h = refl
no_extensions x (MessageItem-F.Message m) is h = refl
no_extensions x (MessageItem-F.Enum e) is h = refl
no_extensions x (MessageItem-F.Extend e) is h = refl
no_extensions x (MessageItem-F.Extensions e) is h = absurd (h e (sym (roll-out-MessageItem x) ∙ ap roll-MessageItem is ∙ variants.rolls-Extensions e))
no_extensions x (MessageItem-F.Reserved r) is h = refl
no_extensions x (MessageItem-F.«MessageItem::Option» o) is h = refl
no_extensions x (MessageItem-F.«MessageItem::Empty» span) is h = refl

pub no_reserved : (x : MessageItem) (y : ItemLayer) → out-MessageItem x ≡ y → ((s : Reserved) → x ≡ variants.Reserved s → ⊥) → (reserved_ranges_in y ≡ []) × (reserved_names_in y ≡ [])
no_reserved x (MessageItem-F.«MessageItem::Field» f) is h = (refl, refl)
no_reserved x (MessageItem-F.Oneof o) is h = (refl, refl)
no_reserved x (MessageItem-F.Message m) is h = (refl, refl)
no_reserved x (MessageItem-F.Enum e) is h = (refl, refl)
no_reserved x (MessageItem-F.Extend e) is h = (refl, refl)
no_reserved x (MessageItem-F.Extensions e) is h = (refl, refl)
no_reserved x (MessageItem-F.Reserved r) is h = absurd (h r (sym (roll-out-MessageItem x) ∙ ap roll-MessageItem is ∙ variants.rolls-Reserved r))
no_reserved x (MessageItem-F.«MessageItem::Option» o) is h = (refl, refl)
no_reserved x (MessageItem-F.«MessageItem::Empty» span) is h = (refl, refl)

pub no_option : (x : MessageItem) (y : ItemLayer) → out-MessageItem x ≡ y → ((s : OptionStatement) → x ≡ variants.Option s → ⊥) → option_in y ≡ []
no_option x (MessageItem-F.«MessageItem::Field» f) is h = refl
no_option x (MessageItem-F.Oneof o) is h = refl
no_option x (MessageItem-F.Message m) is h = refl
no_option x (MessageItem-F.Enum e) is h = refl
no_option x (MessageItem-F.Extend e) is h = refl
no_option x (MessageItem-F.Extensions e) is h = refl
no_option x (MessageItem-F.Reserved r) is h = refl
no_option x (MessageItem-F.«MessageItem::Option» o) is h = absurd (h o (sym (roll-out-MessageItem x) ∙ ap roll-MessageItem is ∙ variants.rolls-Option o))
no_option x (MessageItem-F.«MessageItem::Empty» span) is h = refl
