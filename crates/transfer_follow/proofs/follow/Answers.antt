-- The path is followed, and the place stored keeps what lies past the words that n rules need. Assumes nothing.
use Rattle.transfer_follow.proofs.Levels.{ready-followable, store-room, stored}
use Rattle.transfer_follow.proofs.follow.Goals as goal

pub descend-used-requires : goal.descend-used-requires
descend-used-requires c = (ready-followable c.requires.0, c.requires.1)

pub store-requires : goal.store-requires
store-requires c = store-room c.requires.0 c.descend-used.ensures

pub returns : goal.returns
returns c = stored c.requires.0 c.descend-used.ensures c.store.ensures
