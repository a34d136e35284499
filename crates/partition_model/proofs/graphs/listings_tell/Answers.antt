use Rattle.partition_model.proofs.graphs.listings_tell.Goals as goal
use Rattle.partition_model.proofs.Listing.{listings_tell}

pub returns : goal.returns
returns c = listings_tell
