pub mod CellNames
pub mod HolderRights
