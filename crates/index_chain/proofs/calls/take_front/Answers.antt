use Rattle.index_chain.proofs.Walking.{walk_take, front_whole, rest_whole}
use Rattle.index_chain.proofs.calls.take_front.Goals as goal

pub returns-clause-front : goal.returns-clause-front
returns-clause-front g c = walk_take (g.L.Links.words c.args.links.now) c.args.n c.args.chain.count c.args.chain.first c.requires.n

pub returns-clause-front_chain : goal.returns-clause-front_chain
returns-clause-front_chain g c = front_whole (g.L.Links.words c.args.links.now) c.args.chain c.args.n c.requires.n c.requires.chain

pub returns-clause-rest_chain : goal.returns-clause-rest_chain
returns-clause-rest_chain g c = rest_whole (g.L.Links.words c.args.links.now) c.args.chain c.args.n c.behind-next.result c.requires.n c.requires.chain c.behind-next.ensures.rest
