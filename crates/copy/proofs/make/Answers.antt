-- Each step leaves what the next one asks, and the last one the copy. Assumes nothing.
use Rattle.copy.proofs.Makes.{arrangeable, annotatable, copyable, made}
use Rattle.copy.proofs.make.Goals as goal

pub arrange-requires : goal.arrange-requires
arrange-requires c = arrangeable c.requires

pub annotate-requires : goal.annotate-requires
annotate-requires c = annotatable c.requires c.arrange.ensures

pub write_copy-requires : goal.write_copy-requires
write_copy-requires c = copyable c.requires c.arrange.ensures c.args.class c.annotate.ensures

pub returns : goal.returns
returns c = made c.requires c.arrange.ensures c.args.class c.annotate.ensures c.write_copy.ensures
