-- What is merged into copies.
use Rattle.std.proofs.Common.{◌≡◌, ℕ, List, [], None, sym, subst}
use Rattle.reflect_wire.specs.Reads.{Fronts}
use Rattle.reflect_wire.specs.Records.{Payload, SpellsRecords}
use Rattle.reflect_wire.specs.Views.{records_of}
use Rattle.reflect_pool.specs.declared.message.MessageDescriptor.{MessageDescriptor}
use Rattle.reflect_message.specs.Contents.{Content}
use Rattle.reflect_copies.specs.Copies.{IsCopy}
use Rattle.reflect_message.specs.Oneofs.{AreChosen}
use Rattle.reflect_copies.proofs.Copying.{chosen_copied}
use Rattle.reflect_decode.specs.Accepts.{Accepts}
use Rattle.reflect_decode.specs.Levels.{MergesAt}
use Rattle.reflect_decode.specs.Merging.{IsBody}
use Rattle.reflect_decode.specs.Messages.{Takes}
use Rattle.reflect_decode.specs.Ordered.{HoldsInOrder}
use Rattle.reflect_decode.specs.Spares.{Merges}
use Rattle.reflect_decode.specs.Suits.{Suits}
use Rattle.reflect_decode.proofs.Running.{whole_body}
use Rattle.reflect_decode.proofs.Suiting.{copy_suits}

-- records that were taken into a copy
pub merged : (levels : ℕ) (m type : MessageDescriptor) (bytes rest : List ℕ) (old a b : Content)
    (rs : List (ℕ × Payload)) → type ≡ m → Fronts (IsBody None levels) bytes rs rest → rest ≡ []
    → MergesAt levels type a b rs → (Suits levels type a → Accepts levels type rs) → IsCopy old a
    → HoldsInOrder a
    → (rs : List (ℕ × Payload)) × (copy : Content) × SpellsRecords levels bytes (records_of rs)
    × IsCopy old copy × HoldsInOrder copy × MergesAt levels m copy b rs
    × (Suits levels m old → Accepts levels m rs)
merged levels m type bytes rest old a b rs same read whole taken accepted copied ordered = (
  rs,
  a,
  whole_body levels bytes rest rs read whole,
  copied,
  ordered,
  subst (λ t. MergesAt levels t a b rs) same taken,
  λ suits.
      let before = subst (λ t. Suits levels t old) (sym same) suits in
      subst (λ t. Accepts levels t rs) same (accepted (copy_suits levels type old a copied before)),
)

pub merged_chosen : (inner : Takes) (m type new : MessageDescriptor) (old a b : Content)
    (rs : List (ℕ × Payload)) → type ≡ m → new ≡ type → Merges inner type a b rs → IsCopy old a
    → AreChosen m old.choices old.fields → AreChosen new b.choices b.fields
merged_chosen inner m type new old a b rs is same h copied chosen =
    let before = subst (λ t. AreChosen t old.choices old.fields) (sym is) chosen in
    let copy =
    chosen_copied type old.choices a.choices old.fields a.fields copied.choices copied.fields before in
    subst (λ t. AreChosen t b.choices b.fields) (sym same) (h.filled copy).chosen
