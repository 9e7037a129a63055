use Rattle.schema_laws.proofs.ListedOptions.{listed_encoded, listed_lie}
use Rattle.schema_laws.proofs.braces.options_in_braces_list_what_their_texts_encode_to.Goals as goal

pub returns-clause-messages : goal.returns-clause-messages
returns-clause-messages c = λ s decoded n scope o settled come some ns name texts outs lists encodes.
    listed_encoded s decoded n scope o settled ns name come some texts outs lists encodes

pub returns-clause-bytes : goal.returns-clause-bytes
returns-clause-bytes c = λ s decoded n scope o settled come ns name text texts outs lists encodes.
    listed_lie s decoded n scope o settled ns name come text texts outs lists encodes
