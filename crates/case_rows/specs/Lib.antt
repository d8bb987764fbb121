pub mod StageRow
pub mod StageRows
