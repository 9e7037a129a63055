-- Of each oneof of a message of which a text is refused one member at most still holds anything; and but for want of memory
-- the message holds what the fields before the fault give.
use Rattle.std.proofs.Common.{◌≡◌, ◌≢◌, ◌∙◌, inl, inr, ℕ, List, Option, Some, ap, sym, subst}
use Rattle.protox_lex.specs.Class.{Text}
use Rattle.protobuf_model.specs.Types.{Name}
use Rattle.protobuf_model.specs.Values.{Message}
use Rattle.text_lex.specs.Token.{Lexeme}
use Rattle.text_error.specs.declared.error.ParseErrorKind.{ParseErrorKind}
use Rattle.text_error.specs.declared.error.ParseErrorKind.TheVariants as faults
use Rattle.text_model.specs.Tree.{FieldName, Fields, plain, extension, expansion, Given}
use Rattle.text_model.specs.Value.{value, written}
use Rattle.text_syntax.specs.Beginning.{BeginWith}
use Rattle.text_syntax.specs.Syntax.{at_end, message_at}
use Rattle.reflect_tables.specs.Types.{KindType}
use Rattle.reflect_tables.specs.Types as types
use Rattle.reflect_any.specs.Any.{IsLone}
use Rattle.reflect_pool.specs.declared.message.MessageDescriptor.{MessageDescriptor}
use Rattle.reflect_message.specs.Known.{numbered_field}
use Rattle.reflect_message.specs.Names.{DynamicMessage}
use Rattle.reflect_message.specs.Oneofs.{IsExclusive}
use Rattle.reflect_format.specs.Begun.{Begins, BeginsAny, BeginsTarget}
use Rattle.reflect_format.specs.Filled.{AreGiven, ListOfKind, url_of}
use Rattle.reflect_format.specs.Reads.{StaysUnless, Stops}
use Rattle.reflect_format.specs.Steps.{LeavesNumber}
use Rattle.reflect_format.specs.declared.target.Target.{Target}
use Rattle.message_view.specs.Sound.{AreApart, IsSound}
use Rattle.message_view.specs.Views.{view}
use Rattle.text_view.specs.Holds.{HoldsKinds}
use Rattle.text_view.specs.Schemas.{schema_of, shape_at}
use Rattle.text_view.proofs.Bodies.{fills_type}
use Rattle.text_view.proofs.Expanded.{IsWhole, bytes_whole, lone_owns, string_whole}
use Rattle.text_view.proofs.Filling.{filled, stays_so}
use Rattle.text_view.proofs.Owned.{OwnsTarget, named_target}
use Rattle.text_view.proofs.Steady.{stays}

-- a target is left, or takes a part of what is given
target_stays : (t : Target) (all : ListOfKind) (old new : DynamicMessage) → OwnsTarget old.descriptor t → BeginsTarget t all old new → IsExclusive old → IsExclusive new
target_stays t all old new owns (inl left) = stays t old new owns left.1
target_stays t all old new owns (inr some) = stays t old new owns some.5.3

-- a field of a google.protobuf.Any is left
number_stays : (old new : DynamicMessage) (n : ℕ) (kind : KindType) → IsWhole kind → AreApart old.descriptor.pool.now → IsLone old.descriptor.pool.now old.descriptor.index kind (numbered_field old.descriptor.pool.now old.descriptor.index n)
    → LeavesNumber n old new → IsExclusive old → IsExclusive new
number_stays old new n kind whole apart lone left =
    left.3.1 (lone_owns old.descriptor apart n kind left.0 left.1 left.2 lone whole)

-- its URL is left, or set, and its bytes are left
any_stays : (url : Text) (old new : DynamicMessage) → AreApart old.descriptor.pool.now → BeginsAny url old new → IsExclusive old → IsExclusive new
any_stays url old new apart (any, inl left) exclusive = number_stays old new 1 types.string string_whole apart any.1 left exclusive
any_stays url old new apart (any, inr (between, typed, first, left)) exclusive =
    let its_apart = subst (λ (c : MessageDescriptor). AreApart c.pool.now) (sym typed) apart in
    let lone = subst (λ (c : MessageDescriptor). IsLone c.pool.now c.index types.bytes (numbered_field c.pool.now c.index 2)) (sym typed) any.2 in
    number_stays between new 2 types.bytes bytes_whole its_apart lone left
    (first.6 (lone_owns old.descriptor apart 1 types.string first.0 first.2 first.3 any.1 string_whole) exclusive)

-- what stands under a name is begun
pub begun_stays : (name : FieldName) (g : Given) (old new : DynamicMessage) → AreApart old.descriptor.pool.now → Begins name g old new → IsExclusive old → IsExclusive new
begun_stays (plain w) g old new apart (t, named, begun) =
    target_stays t (AreGiven g) old new (named_target old.descriptor apart w t (inl named)) begun
begun_stays (extension n) g old new apart (t, named, begun) =
    target_stays t (AreGiven g) old new (named_target old.descriptor apart (written n) t (inr named)) begun
begun_stays (expansion domain n) g old new apart begun =
    any_stays (url_of (written domain) (written n)) old new apart begun

-- the message is as it was, or P holds
either : (P : Type 0) (kind : ParseErrorKind) (old new : DynamicMessage) → (P → IsExclusive new) → IsExclusive old → StaysUnless P kind old new → IsExclusive new
either P kind old new f exclusive (inl same) = subst IsExclusive (sym same) exclusive
either P kind old new f exclusive (inr w) = f w.1

pub stopped_stays : (old new : DynamicMessage) → IsSound old.descriptor.pool.now → IsExclusive old → HoldsKinds old → (ls : List Lexeme) (kind : ParseErrorKind) → Stops ls kind old new → IsExclusive new
stopped_stays old new sound exclusive kinds ls kind (done, rest, reached, begins, fills, refused) =
    let its_apart = subst (λ (c : MessageDescriptor). AreApart c.pool.now) (sym (fills_type done old reached fills)) sound.apart in
    let before = (stays_so old reached sound exclusive kinds done fills).0 in
    either _ kind reached new (λ w. begun_stays w.0.name w.0.given reached new its_apart w.3 before) before refused.stays

-- ---- and where memory was not wanted, it holds what the fields before the fault give

unbegun : (P : Type 0) (kind : ParseErrorKind) (old new : DynamicMessage) → (kind ≢ faults.Memory) → StaysUnless P kind old new → new ≡ old
unbegun P kind old new other (inl same) = same
unbegun P kind old new other (inr w) = absurd (other w.0)

pub fields_before : (decoded : Name → Text → Option Message) (old new : DynamicMessage) → IsSound old.descriptor.pool.now → IsExclusive old → HoldsKinds old
    → (ls : List Lexeme) (kind : ParseErrorKind) → (kind ≢ faults.Memory) → Stops ls kind old new
    → (done : Fields) × (rest : List Lexeme) × BeginWith at_end (message_at 100) ls done rest
    × (value (schema_of old.descriptor.pool.now decoded) (shape_at old.descriptor.pool.now old.descriptor.index) done (view old) ≡ Some (view new)) × HoldsKinds new
fields_before decoded old new sound exclusive holds ls kind other (done, rest, reached, begins, fills, refused) =
    let same : new ≡ reached = unbegun _ kind reached new other refused.stays in
    let given = filled decoded old reached sound exclusive holds done fills in
    let kept = (stays_so old reached sound exclusive holds done fills).1 in
    (done, rest, begins, given ∙ ap (λ m. Some (view m)) (sym same), subst HoldsKinds (sym same) kept)
