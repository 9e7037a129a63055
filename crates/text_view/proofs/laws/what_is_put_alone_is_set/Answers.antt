use Rattle.text_view.proofs.Told.{put_alone}
use Rattle.text_view.proofs.laws.what_is_put_alone_is_set.Goals as goal

pub returns : goal.returns
returns c = put_alone
