use Rattle.std.proofs.Common.{refl}
use Rattle.reflect_known.proofs.MessageNames.{same_file}
use Rattle.reflect_index.proofs.rewrite.rewrite_file.Goals as goal

pub returns-clause-names : goal.returns-clause-names
returns-clause-names c =
    let f = c.args.file.now in
    let messages = c.rewrite_messages.new.messages in
    let services = c.rewrite_services.new.services in
    let extensions = c.rewrite_extensions.new.extensions in
    same_file (record f { message_type = messages; service = services; extension = extensions }) f
    refl c.rewrite_messages.ensures.names refl c.rewrite_services.ensures.names
    c.rewrite_extensions.ensures.names
