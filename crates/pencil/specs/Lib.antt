pub mod PencilSheet
