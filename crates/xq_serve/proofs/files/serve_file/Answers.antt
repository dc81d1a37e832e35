use Rattle.sqlite.specs.WalFiles.{image_at}
use Rattle.xq_serve.proofs.Serving.{file_served}
use Rattle.xq_serve.proofs.files.serve_file.Goals as goal

pub returns : goal.returns
returns g c =
    file_served c.in_ok-store.store c.new-server.result c.serve-end.new.self c.into_store-store.result (image_at g.S.Start) _ _ _ _ c.args.max_frames _ _ c.serve-end.result c.close_store.result
    c.new-server.ensures c.into_store-store.ensures c.in_ok-store.ensures.found c.serve-end.ensures.served c.close_store.ensures
