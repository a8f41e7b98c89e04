use Rattle.range_map.proofs.SortedEntries.{put_in-in_order, put_in-newest}
use Rattle.range_map.proofs.laws.order_laws.Goals as goal

pub returns-clause-ordered : goal.returns-clause-ordered
returns-clause-ordered c = put_in-in_order

pub returns-clause-newest : goal.returns-clause-newest
returns-clause-newest c = put_in-newest
