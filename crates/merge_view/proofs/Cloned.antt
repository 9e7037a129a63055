-- Copies of messages mean what these do, and are in order where these are.
use Rattle.std.proofs.Common.{◌≡◌, refl, sym, ◌∙◌}
use Rattle.reflect_message.specs.Contents.{content_of}
use Rattle.reflect_copies.specs.Copies.{IsCopy}
use Rattle.reflect_copies.specs.InOrder.{IsInOrder}
use Rattle.reflect_message.specs.Names.{DynamicMessage}
use Rattle.reflect_decode.specs.Ordered.{IsOrdered}
use Rattle.reflect_decode.proofs.InOrder.{message_tells}
use Rattle.message_view.specs.Views.{view}
use Rattle.message_view.proofs.Elements.{seen_in}
use Rattle.merge_view.proofs.Copied.{copy_seen}
use Rattle.merge_view.proofs.Shaped.{copy_ordered}

pub copy_means : (old copy : DynamicMessage) → copy.descriptor ≡ old.descriptor
    → IsCopy (content_of old) (content_of copy) → view copy ≡ view old
copy_means old copy same copied =
    let d = old.descriptor in
    seen_in d.pool.now d copy same refl
    ∙ copy_seen d.pool.now d.index (content_of old) (content_of copy) copied
    ∙ sym (seen_in d.pool.now d old refl refl)

pub clone_ordered : (old copy : DynamicMessage) → IsCopy (content_of old) (content_of copy)
    → IsInOrder copy → IsOrdered (content_of old) → IsOrdered (content_of copy)
clone_ordered old copy copied sorted =
    copy_ordered (content_of old) (content_of copy) copied (message_tells copy sorted)
